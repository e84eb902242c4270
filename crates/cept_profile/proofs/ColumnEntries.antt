-- Rows read by their columns, from 1: within the row, outside it, and row by row in a table.
use Rattle.std.proofs.Common.{◌≡◌, ℕ, ◌+◌, ◌-◌, ◌<◌, ◌≤◌, ◌⊎◌, inl, inr, zero, suc, Bool, false, List, length}
use Rattle.std.proofs.Common.{map, rules}
use Rattle.std.proofs.Common.{get_or}
use Rattle.std.proofs.Common.{refl, sym, ap, ◌∙◌, arith}
use Rattle.std.specs.List.{list_any, range_with_len}
use Rattle.std.proofs.Math.ListN.{get_or-map}
use Rattle.std.proofs.lemmas.Bool.{cases_lt, false_from_ne_true, true≢false}
use Rattle.std.proofs.lemmas.List.Elements.{All-from_get_or}
use Rattle.std.proofs.lemmas.List.Folds.{list_any_at, list_any_none}
use Rattle.std.proofs.lemmas.List.FromFn.{get_or-range_with_len, length-range_with_len}
use Rattle.cept_codes.specs.Place.{OnScreen}
use Rattle.cept_codes.specs.Table.{IsTable, entry, row_of, table}
use Rattle.cept_codes.proofs.Laws.{entry-list_by_index, entry_past, length-list_by_index, row_of-list_by_index}
use Rattle.cept_codes.proofs.Laws.{same_indexed, same_lists, table-list_by_index}
use Rattle.cept_codes.proofs.Laws.{entry_from}
use Rattle.cept_profile.specs.Tiling.{column_entry}

-- ---- one row

column_entry-index : {X : Type 0} (d : X) (row : List X) (c : ℕ) → 1 ≤ c → column_entry d row c ≡ get_or row (c - 1) d
column_entry-index d row c low = entry_from d 1 row c low

pub column_entry-at : {X : Type 0} (d : X) (row : List X) (c : ℕ) → 1 ≤ c → column_entry d row c ≡ entry d 1 row c
column_entry-at d row c low = refl

pub length-row_of : {X : Type 0} (f : ℕ → X) → length (row_of f) ≡ 40
length-row_of f = ap length (row_of-list_by_index f) ∙ length-list_by_index 1 40 f

pub column_entry-row_of : {X : Type 0} (d : X) (f : ℕ → X) (c : ℕ) → 1 ≤ c → c ≤ 40 → column_entry d (row_of f) c ≡ f c
column_entry-row_of d f c low high =
    column_entry-at d (row_of f) c low ∙ ap (λ xs. entry d 1 xs c) (row_of-list_by_index f)
    ∙ entry-list_by_index d 1 40 f c low (omega arith)

pub column_entry-past : {X : Type 0} (d : X) (row : List X) (c : ℕ) → length row ≡ 40 → 40 < c
    → column_entry d row c ≡ d
column_entry-past d row c long past =
    column_entry-at d row c (omega arith) ∙ entry_past d 1 row c (omega (arith, long))

-- at column 0 too, where the default stands there
pub column_entry-row_of_from_0 : {X : Type 0} (d : X) (f : ℕ → X) (c : ℕ) → f 0 ≡ d → c ≤ 40
    → column_entry d (row_of f) c ≡ f c
column_entry-row_of_from_0 d f zero first high = sym first
column_entry-row_of_from_0 d f (suc c) first high = column_entry-row_of d f (suc c) (omega arith) high

-- a row of defaults
pub column_entry-default : {X : Type 0} (d : X) (c : ℕ) → column_entry d (row_of (λ _. d)) c ≡ d
column_entry-default d c =
    elim (cases_lt 40 c) [
      | inl past ↦ column_entry-past d (row_of (λ _. d)) c (length-row_of (λ _. d)) past
      | inr high ↦ column_entry-row_of_from_0 d (λ _. d) c refl high
    ]

-- a row of which each entry is changed alike
pub column_entry-map : {X Y : Type 0} (f : X → Y) (d : X) (xs : List X) (c : ℕ)
    → column_entry (f d) (map f xs) c ≡ f (column_entry d xs c)
column_entry-map f d xs zero = refl
column_entry-map f d xs (suc c) =
    column_entry-index (f d) (map f xs) (suc c) (omega arith) ∙ get_or-map f xs (suc c - 1) d
    ∙ sym (ap f (column_entry-index d xs (suc c) (omega arith)))

-- two rows that agree in each column are the same
pub same_columns : {X : Type 0} (d : X) (xs ys : List X) → length xs ≡ 40 → length ys ≡ 40
    → ((c : ℕ) → 1 ≤ c → c ≤ 40 → column_entry d xs c ≡ column_entry d ys c) → xs ≡ ys
same_columns d xs ys long also same =
    same_lists d 1 xs ys (long ∙ sym also) (λ c low high.
    sym (column_entry-at d xs c low) ∙ same c low (omega (arith, high, long)) ∙ column_entry-at d ys c low)

-- a row that is as wanted in each column is the wanted one
pub row_by_column : {X : Type 0} (d : X) (f : ℕ → X) (xs : List X) → length xs ≡ 40
    → ((c : ℕ) → 1 ≤ c → c ≤ 40 → column_entry d xs c ≡ f c) → xs ≡ row_of f
row_by_column d f xs long same =
    same_columns d xs (row_of f) long (length-row_of f) (λ c low high.
    same c low high ∙ sym (column_entry-row_of d f c low high))

pub same_row_of : {X : Type 0} (f g : ℕ → X) → ((c : ℕ) → 1 ≤ c → c ≤ 40 → f c ≡ g c) → row_of f ≡ row_of g
same_row_of f g same =
    row_of-list_by_index f ∙ same_indexed 1 40 f g (λ c low high. same c low (omega arith))
    ∙ sym (row_of-list_by_index g)

-- a test that none of n numbers passes
pub no_index : (from n : ℕ) (p : ℕ → Bool) → list_any p (range_with_len from n) ≡ false → (k : ℕ) → from ≤ k
    → k < from + n → p k ≡ false
no_index from n p none k low high =
    let within : k - from < length (range_with_len from n) = omega (arith, length-range_with_len from n) in
    let there : get_or (range_with_len from n) (k - from) 0 ≡ k =
    get_or-range_with_len from n (k - from) 0 (omega arith) ∙ omega arith in
    false_from_ne_true (p k) (λ passes.
    true≢false (sym (list_any_at p (range_with_len from n) (k - from) 0 within (ap p there ∙ passes)) ∙ none))

-- and one that none does
pub none_passes : (from n : ℕ) (p : ℕ → Bool) → ((k : ℕ) → from ≤ k → k < from + n → p k ≡ false)
    → list_any p (range_with_len from n) ≡ false
none_passes from n p none =
    list_any_none p (range_with_len from n) (All-from_get_or (λ k. p k ≡ false) (range_with_len from n) 0 (λ i below.
    let within : i < n = omega (arith, below, length-range_with_len from n) in
    ap p (get_or-range_with_len from n i 0 within) ∙ none (from + i) (omega arith) (omega arith)))

-- ---- the rows of a table

pub column_entry-table : {X : Type 0} (d : List X) (f : ℕ → ℕ → X) (r : ℕ) → 1 ≤ r → r ≤ 24
    → column_entry d (table f) r ≡ row_of (f r)
column_entry-table d f r low high =
    column_entry-at d (table f) r low ∙ ap (λ rows. entry d 1 rows r) (table-list_by_index f)
    ∙ entry-list_by_index d 1 24 (λ q. row_of (f q)) r low (omega arith)

pub length-row_in : {X : Type 0} (f : ℕ → X) (t : List (List X)) (r : ℕ) → IsTable t → r ≤ 24
    → length (column_entry (row_of f) t r) ≡ 40
length-row_in f t zero is high = length-row_of f
length-row_in f t (suc r) is high =
    ap length (column_entry-index (row_of f) t (suc r) (omega arith))
    ∙ is.columns (suc r - 1) (row_of f) (omega arith)

-- ---- places off the screen

-- above the first row, left of the first column or right of the last
abbrev pub IsOff : ℕ → ℕ → Type 0
IsOff r c = (r ≡ 0) ⊎ ((c ≡ 0) ⊎ (40 < c))

pub off_or_on : (r c : ℕ) → r ≤ 24 → IsOff r c ⊎ OnScreen r c
off_or_on zero c high = inl (inl refl)
off_or_on (suc r) zero high = inl (inr (inl refl))
off_or_on (suc r) (suc c) high =
    elim (cases_lt 40 (suc c)) [
      | inl past ↦ inl (inr (inr past))
      | inr right ↦
          inr (search rules)
    ]

-- there a table shows the default
pub entry_off : {X : Type 0} (d : X) (t : List (List X)) (r c : ℕ) → IsTable t → r ≤ 24 → IsOff r c
    → column_entry d (column_entry (row_of (λ _. d)) t r) c ≡ d
entry_off {X} d t r c is high off =
    elim off [
      | inl top ↦ ap (λ (q : ℕ). column_entry d (column_entry (row_of (λ _. d)) t q) c) top ∙ column_entry-default d c
      | inr (inl first) ↦ ap (column_entry d (column_entry (row_of (λ _. d)) t r)) first
      | inr (inr past) ↦
          column_entry-past d (column_entry (row_of (λ _. d)) t r) c (length-row_in (λ _. d) t r is high) past
    ]
