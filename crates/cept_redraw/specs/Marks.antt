-- Marks: a flag for each place of the screen, in reading order (marks are this profile's own).
use Rattle.std.specs.Prelude.{ℕ, ◌≡◌, ◌≤◌, ◌<◌, Bool, true, false, List, replicate, slice_index_or}
use Rattle.cept_codes.specs.Place.{Place, OnScreen, number}

-- the place with this number in reading order is marked
abbrev pub is_marked : List Bool → ℕ → Bool
is_marked marks n = slice_index_or marks n false

-- no place is marked
unfoldable pub no_marks : List Bool
no_marks = replicate 960 false

-- no place is marked whose number is below `first`, or `end` or more (own)
pub record AreWithin (marks : List Bool) (first end : ℕ) : Type 0 where
  pub in_order : first ≤ end
  pub places : end ≤ 960
  pub before : (n : ℕ) → n < first → is_marked marks n ≡ false
  pub after : (n : ℕ) → end ≤ n → is_marked marks n ≡ false

-- the first marked place with a number of at least `from`
pub record IsFirstFrom (marks : List Bool) (from : ℕ) (place : Place) : Type 0 where
  pub on_screen : OnScreen place.row place.column
  pub at_least : from ≤ number place.row place.column
  pub marked : is_marked marks (number place.row place.column) ≡ true
  pub first : (n : ℕ) → from ≤ n → n < number place.row place.column → is_marked marks n ≡ false
