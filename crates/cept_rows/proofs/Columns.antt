-- Rows by their columns, from 1: read, compared, and made one column after the other.
use Rattle.std.proofs.Common.{◌≡◌, ℕ, ◌+◌, ◌-◌, ◌<◌, ◌≤◌, List, length, get_or, set}
use Rattle.std.proofs.Common.{inl, inr}
use Rattle.std.proofs.Common.{refl, sym, ap, subst, ◌∙◌, arith}
use Rattle.std.proofs.lemmas.Bool.{cases_eq, cases_lt}
use Rattle.std.proofs.lemmas.List.{ext_get_or, get_or-set_other, get_or-set_same, get_or_past, length-set}
use Rattle.std.proofs.lemmas.List.FromFn.{get_or-map-range_with_len, length-map-range_with_len}
use Rattle.cept_codes.specs.Table.{row_of, HasMadeEntries}
use Rattle.cept_codes.proofs.Laws.{HasMadeEntries-more, HasMadeEntries-all, entry_from, row_of-list_by_index, same_indexed}
use Rattle.cept_profile.specs.Tiling.{column_entry}

-- a column stands at the index before
pub column_entry-at : {X : Type 0} (d : X) (xs : List X) (c : ℕ) → 1 ≤ c → column_entry d xs c ≡ get_or xs (c - 1) d
column_entry-at d xs c low = entry_from d 1 xs c low

-- past the last the default is read
pub column_entry-past : {X : Type 0} (d : X) (xs : List X) (c : ℕ) → length xs ≡ 40 → 40 < c → column_entry d xs c ≡ d
column_entry-past d xs c long past =
    column_entry-at d xs c (omega arith) ∙ get_or_past xs (c - 1) d (omega (arith, past, long))

-- a row that is made of a function of the column
pub get_or-row_of : {X : Type 0} (f : ℕ → X) (c : ℕ) (d : X) → 1 ≤ c → c ≤ 40 → get_or (row_of f) (c - 1) d ≡ f c
unfolding row_of
get_or-row_of f c d low high = get_or-map-range_with_len f 1 40 (c - 1) c d (omega arith) (omega arith)

-- has forty columns
pub length-row_of : {X : Type 0} (f : ℕ → X) → length (row_of f) ≡ 40
unfolding row_of
length-row_of f = length-map-range_with_len f 1 40

-- and is read by the column
pub column_entry-row_of : {X : Type 0} (d : X) (f : ℕ → X) (c : ℕ) → 1 ≤ c → c ≤ 40 → column_entry d (row_of f) c ≡ f c
column_entry-row_of d f c low high = column_entry-at d (row_of f) c low ∙ get_or-row_of f c d low high

-- rows whose columns are the same
pub same_rows : {X : Type 0} (f g : ℕ → X) → ((c : ℕ) → 1 ≤ c → c ≤ 40 → f c ≡ g c) → row_of f ≡ row_of g
same_rows f g same =
    row_of-list_by_index f ∙ same_indexed 1 40 f g (λ c low high. same c low (omega arith))
    ∙ sym (row_of-list_by_index g)

-- one column set
pub set-row_of : {X : Type 0} (f g : ℕ → X) (x : X) (c : ℕ) → 1 ≤ c → c ≤ 40 → g c ≡ x
    → ((d : ℕ) → 1 ≤ d → d ≤ 40 → (d ≡ c → ⊥) → g d ≡ f d) → row_of g ≡ set (row_of f) (c - 1) x
set-row_of f g x c low high here other =
    ext_get_or x (row_of g) (set (row_of f) (c - 1) x)
    (length-row_of g ∙ sym (length-row_of f) ∙ sym (length-set (row_of f) (c - 1) x)) (λ i below.
    let inside : i < 40 = omega (arith, below, length-row_of g) in
    let at : i ≡ i + 1 - 1 = omega arith in
    ap (λ k. get_or (row_of g) k x) at ∙ get_or-row_of g (i + 1) x (omega arith) (omega arith)
    ∙ elim (cases_eq (i + 1) c) [
      | inl e ↦
          ap g e ∙ here
          ∙ sym (ap (λ k. get_or (set (row_of f) (c - 1) x) k x) (omega (arith, e))
          ∙ get_or-set_same (row_of f) (c - 1) x x (omega (arith, high, length-row_of f)))
      | inr differs ↦
          other (i + 1) (omega arith) (omega arith) differs
          ∙ sym (get_or-set_other (row_of f) (c - 1) i x x (omega (arith, low, differs))
          ∙ ap (λ k. get_or (row_of f) k x) at ∙ get_or-row_of f (i + 1) x (omega arith) (omega arith))
    ])

-- ---- made one column after the other

-- one more
pub made_next : {X : Type 0} (d x : X) (f g : ℕ → X) (list : List X) (c : ℕ)
    → HasMadeEntries d 1 40 f g list (c - 1) → 1 ≤ c → c ≤ 40 → x ≡ f c
    → HasMadeEntries d 1 40 f g (set list (c - 1) x) (c + 1 - 1)
made_next d x f g list c made low high e =
    let next : c - 1 + 1 ≡ c + 1 - 1 = omega arith in
    subst (λ n. HasMadeEntries d 1 40 f g (set list (c - 1) x) n) next
    (HasMadeEntries-more d x 1 40 f g list (c - 1) (c - 1) c made (omega arith) refl (omega arith) e)

-- all of them
pub made_all : {X : Type 0} (d : X) (f g : ℕ → X) (list : List X) (c : ℕ) → HasMadeEntries d 1 40 f g list (c - 1)
    → 41 ≤ c → list ≡ row_of f
made_all d f g list c made whole =
    HasMadeEntries-all d 1 40 f g list (c - 1) made (omega arith) ∙ sym (row_of-list_by_index f)

-- what is so of each column before, and of this one
pub one_more : (P : ℕ → Type 0) (n : ℕ) → ((c : ℕ) → 1 ≤ c → c < n → P c) → P n → (c : ℕ) → 1 ≤ c → c < n + 1 → P c
one_more P n before here c low below =
    elim (cases_lt c n) [
      | inl less ↦ before c low less
      | inr past ↦ let e : n ≡ c = omega (arith, past, below) in subst P e here
    ]
