-- Tables (own): lists that are made of a function of an index and read by that index, which starts at any number, and
-- tables of the screen, 24 rows of 40, that are made of a function of row and column and read by both, each from 1.
use Rattle.std.specs.Prelude.{ℕ, ◌≡◌, ◌+◌, ◌-◌, ◌<◌, ◌≤◌, List, [], length, map, slice_index_or, nat_lt}
use Rattle.std.specs.Prelude.{if◌then◌else◌}
use Rattle.std.specs.List.{range_with_len}
use Rattle.cept_codes.specs.Place.{OnScreen}

-- a list of so many entries, by an index that starts at `from`
unfoldable pub list_by_index : {X : Type 0} → ℕ → ℕ → (ℕ → X) → List X
list_by_index from count f = map f (range_with_len from count)

-- what stands at this index of a list whose index starts at `from`, and the default below the first and past the last
abbrev pub entry : {X : Type 0} → X → ℕ → List X → ℕ → X
entry default from list k = if nat_lt k from then default else slice_index_or list (k - from) default

-- a row of a table, by its column
unfoldable pub row_of : {X : Type 0} → (ℕ → X) → List X
row_of f = map f (range_with_len 1 40)

-- a table, by its rows and columns
unfoldable pub table : {X : Type 0} → (ℕ → ℕ → X) → List (List X)
table f = map (λ r. row_of (f r)) (range_with_len 1 24)

-- what stands in this row and column, from 1 each, and the default past the last; row and column 0 are never asked
abbrev pub value_at : {X : Type 0} → X → List (List X) → ℕ → ℕ → X
value_at default t r c = slice_index_or (slice_index_or t (r - 1) []) (c - 1) default

-- 24 rows of 40
pub record IsTable {X : Type 0} (t : List (List X)) : Type 0 where
  pub rows : length t ≡ 24
  pub columns : (i : ℕ) (d : List X) → i < 24 → length (slice_index_or t i d) ≡ 40

-- a list of `count` entries whose first n are made as f says, and whose others are left as g says
pub record HasMadeEntries {X : Type 0} (d : X) (from count : ℕ) (f g : ℕ → X) (list : List X) (n : ℕ) : Type 0 where
  pub long : length list ≡ count
  pub made : (k : ℕ) → from ≤ k → k < from + count → k < from + n → entry d from list k ≡ f k
  pub left : (k : ℕ) → from ≤ k → k < from + count → from + n ≤ k → entry d from list k ≡ g k

-- a table whose first n rows are made as f says, and whose others are left as g says
pub record HasMadeRows {X : Type 0} (d : X) (f g : ℕ → ℕ → X) (t : List (List X)) (n : ℕ) : Type 0 where
  pub is : IsTable t
  pub made : (r c : ℕ) → OnScreen r c → r ≤ n → value_at d t r c ≡ f r c
  pub left : (r c : ℕ) → OnScreen r c → n < r → value_at d t r c ≡ g r c
