-- Each slot holds a row: else 0, that slot and the slots of the 24 rows would be 26 different numbers below 25.
use Rattle.std.proofs.Common.{◌≡◌, ◌≢◌, ℕ, suc, zero, ◌+◌, ◌-◌, ◌<◌, ◌≤◌, ◌==◌, inl, inr, List, [], ◌∷◌, true, false}
use Rattle.std.proofs.Common.{get_or, length, sym, ap, ◌∙◌, arith}
use Rattle.std.specs.List.{list_any}
use Rattle.std.proofs.lemmas.Bool.{cases_Bool, or_cases}
use Rattle.std.proofs.lemmas.Bool.Decides.{nat_tests}
use Rattle.std.proofs.lemmas.List.{get_or_default}
use Rattle.std.proofs.lemmas.List.Folds.{list_any_at}
use Rattle.std.proofs.lemmas.Map.Keys.{IsDistinct-from_apart}
use Rattle.std.proofs.lemmas.Map.Steps.{length-le_from_distinct_below}
use Rattle.cept_codes.proofs.Laws.{entry_from}
use Rattle.cept_scroll.specs.Order.{HoldsRow, IsRowOrder, slot_of}

-- a number that is found in a list stands somewhere in it
found : (q : ℕ) (xs : List ℕ) → list_any (λ x. q == x) xs ≡ true
    → (i : ℕ) × (i < length xs) × (get_or xs i 0 ≡ q)
found q [] is_in = absurd (cc)
found q (x ∷ xs) is_in =
    elim (or_cases (q == x) (list_any (λ y. q == y) xs) is_in) [
      | inl here ↦ (0, omega arith, grind (arith, nat_tests))
      | inr there ↦
          let rest : (i : ℕ) × (i < length xs) × (get_or xs i 0 ≡ q) = found q xs there in
          (suc rest.0, omega (arith, rest.1), rest.2)
    ]

-- the slot at an index
slot_at : (order : List ℕ) (i : ℕ) → get_or order i 0 ≡ slot_of order (i + 1)
slot_at order i =
    let back : i ≡ i + 1 - 1 = omega arith in
    ap (λ j. get_or order j 0) back ∙ sym (entry_from 0 1 order (i + 1) (omega arith))

range_at : (order : List ℕ) (i : ℕ) → IsRowOrder order → i < length order
    → (1 ≤ get_or order i 0) × (get_or order i 0 ≤ 24)
range_at order i is low =
    let on : (1 ≤ slot_of order (i + 1)) × (slot_of order (i + 1) ≤ 24) =
    is.slots (i + 1) (omega arith) (omega (arith, is.rows)) in
    (omega (arith, on.0, slot_at order i), omega (arith, on.1, slot_at order i))

-- 0, a slot that no row has and the slots of the rows differ
apart : (order : List ℕ) (s : ℕ) → IsRowOrder order → 1 ≤ s → list_any (λ x. s == x) order ≡ false
    → (i j : ℕ) → i < j → j < length (0 ∷ s ∷ order) → get_or (0 ∷ s ∷ order) i 0 ≢ get_or (0 ∷ s ∷ order) j 0
apart order s is low is_out i zero before below = absurd (omega arith)
apart order s is low is_out zero (suc zero) before below = λ same. absurd (omega (arith, same, low))
apart order s is low is_out zero (suc (suc j)) before below =
    λ same. absurd (omega (arith, same, (range_at order j is (omega arith)).0))
apart order s is low is_out (suc zero) (suc zero) before below = absurd (omega arith)
apart order s is low is_out (suc zero) (suc (suc j)) before below =
    λ same.
    let here : (s == get_or order j 0) ≡ true = grind (arith, nat_tests) in
    let is_in : list_any (λ x. s == x) order ≡ true = list_any_at (λ x. s == x) order j 0 (omega arith) here in
    absurd (cc)
apart order s is low is_out (suc (suc i)) (suc zero) before below = absurd (omega arith)
apart order s is low is_out (suc (suc i)) (suc (suc j)) before below =
    λ same.
    let one : i + 1 ≡ j + 1 =
    is.once (i + 1) (j + 1) (omega arith) (omega (arith, is.rows)) (omega arith) (omega (arith, is.rows))
    (sym (slot_at order i) ∙ same ∙ slot_at order j) in
    absurd (omega (arith, one))

-- and are below 25
below : (order : List ℕ) (s : ℕ) → IsRowOrder order → s ≤ 24 → (i : ℕ) → i < length (0 ∷ s ∷ order)
    → get_or (0 ∷ s ∷ order) i 0 < 25
below order s is high zero low = omega arith
below order s is high (suc zero) low = omega (arith, high)
below order s is high (suc (suc i)) low = omega (arith, (range_at order i is (omega arith)).1)

pub slot_held : (order : List ℕ) (s : ℕ) → IsRowOrder order → 1 ≤ s → s ≤ 24 → HoldsRow order s
slot_held order s is low high =
    elim (cases_Bool (list_any (λ x. s == x) order)) [
      | inl is_in ↦
          let at : (i : ℕ) × (i < length order) × (get_or order i 0 ≡ s) = found s order is_in in
          (at.0 + 1, omega arith, omega (arith, at.1, is.rows), sym (slot_at order at.0) ∙ at.2)
      | inr is_out ↦
          let many : length (0 ∷ s ∷ order) ≤ 25 =
          length-le_from_distinct_below (0 ∷ s ∷ order) 25
          (IsDistinct-from_apart _ (0 ∷ s ∷ order) (λ i j d before past.
          let differ : get_or (0 ∷ s ∷ order) i 0 ≢ get_or (0 ∷ s ∷ order) j 0 = apart order s is low is_out i j before past in
          let left : get_or (0 ∷ s ∷ order) i d ≡ get_or (0 ∷ s ∷ order) i 0 =
          get_or_default (0 ∷ s ∷ order) i d 0 (omega (arith, before, past)) in
          let right : get_or (0 ∷ s ∷ order) j d ≡ get_or (0 ∷ s ∷ order) j 0 =
          get_or_default (0 ∷ s ∷ order) j d 0 past in
          grind (arith, nat_tests)))
          (λ q is_in.
          let at : (i : ℕ) × (i < length (0 ∷ s ∷ order)) × (get_or (0 ∷ s ∷ order) i 0 ≡ q) =
          found q (0 ∷ s ∷ order) is_in in
          omega (arith, at.2, below order s is high at.0 at.1)) in
          absurd (omega (arith, many, is.rows))
    ]
