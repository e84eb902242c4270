-- The part of a place by the parts around it, and the one row of them that is tiled beneath another.
use Rattle.std.proofs.Common.{◌≡◌, ℕ, ◌+◌, ◌-◌, ◌≤◌, inl, inr, zero, suc, Bool, List}
use Rattle.std.proofs.Common.{refl, sym, ap, ◌∙◌, arith}
use Rattle.std.proofs.lemmas.Bool.{cases_Bool, cond-true, cond-false}
use Rattle.cept_codes.specs.declared.attribute.Size.{Size}
use Rattle.cept_codes.specs.declared.look.Part.{Part}
use Rattle.cept_codes.specs.Table.{row_of}
use Rattle.cept_profile.specs.Tiling.{IsTiledAt, IsTiledRow, column_entry, covers_below, is_covered_from_left}
use Rattle.cept_profile.specs.Tiling.{part_by, part_from}
use Rattle.cept_profile.specs.Tiling.{single_part}
use Rattle.cept_profile.proofs.ColumnEntries.{column_entry-row_of, column_entry-row_of_from_0, length-row_of}
use Rattle.cept_profile.proofs.ColumnEntries.{row_by_column}
use Rattle.cept_profile.proofs.ColumnEntries.{same_row_of}

-- ---- one place

-- a place that shows the part by those around it meets the conditions
pub IsTiledAt-part_by : (above row : ℕ → Part) (size : Size) (last : Bool) (c : ℕ)
    → row c ≡ part_by (above c) (above (c - 1)) (above (c + 1)) (row (c - 1)) size last c
    → IsTiledAt above row size last c
IsTiledAt-part_by above row size last c is = record {
  from_above = λ covered. is ∙ cond-true _ _ _ covered;
  from_left = λ free left. is ∙ cond-false _ _ _ free ∙ cond-true _ _ _ left;
  origin = λ free apart. is ∙ cond-false _ _ _ free ∙ cond-false _ _ _ apart;
}

-- and only such a place does
pub IsTiledAt-only : (above row : ℕ → Part) (size : Size) (last : Bool) (c : ℕ) → IsTiledAt above row size last c
    → row c ≡ part_by (above c) (above (c - 1)) (above (c + 1)) (row (c - 1)) size last c
IsTiledAt-only above row size last c is =
    elim (cases_Bool (covers_below (above c))) [
      | inl covered ↦ is.from_above covered ∙ sym (cond-true _ _ _ covered)
      | inr free ↦
          elim (cases_Bool (is_covered_from_left (above (c - 1)) (row (c - 1)))) [
            | inl left ↦ is.from_left free left ∙ sym (cond-true _ _ _ left) ∙ sym (cond-false _ _ _ free)
            | inr apart ↦ is.origin free apart ∙ sym (cond-false _ _ _ apart) ∙ sym (cond-false _ _ _ free)
          ]
    ]

-- ---- the parts of a row from the left

pub part_from-none : (above : ℕ → Part) (wanted : ℕ → Size) (last : Bool) → part_from above wanted last 0 ≡ single_part
unfolding part_from
part_from-none above wanted last = refl

pub part_from-at : (above : ℕ → Part) (wanted : ℕ → Size) (last : Bool) (c : ℕ) → 1 ≤ c
    → part_from above wanted last c
    ≡ part_by (above c) (above (c - 1)) (above (c + 1)) (part_from above wanted last (c - 1)) (wanted c) last c
unfolding part_from
part_from-at above wanted last zero low = absurd (omega arith)
part_from-at above wanted last (suc k) low =
    let e : suc k - 1 ≡ k = omega arith in
    let f : suc k + 1 ≡ suc (suc k) = omega arith in
    rw (e, f) refl

-- ---- the one tiled row

pub IsTiledRow-made : (above : List Part) (wanted : ℕ → Size) (last : Bool)
    → IsTiledRow above wanted last (row_of (part_from (column_entry single_part above) wanted last))
IsTiledRow-made above wanted last =
    let a : ℕ → Part = column_entry single_part above in
    let f : ℕ → Part = part_from a wanted last in
    record {
      columns = length-row_of f;
      places = λ c low high.
          IsTiledAt-part_by a (column_entry single_part (row_of f)) (wanted c) last c
          (column_entry-row_of single_part f c low high ∙ part_from-at a wanted last c low
          ∙ sym (ap (λ l. part_by (a c) (a (c - 1)) (a (c + 1)) l (wanted c) last c)
          (column_entry-row_of_from_0 single_part f (c - 1) (part_from-none a wanted last) (omega arith))));
    }

tiled_columns : (above row : List Part) (wanted : ℕ → Size) (last : Bool) → IsTiledRow above wanted last row → (c : ℕ)
    → c ≤ 40 → column_entry single_part row c ≡ part_from (column_entry single_part above) wanted last c
tiled_columns above row wanted last is zero high = sym (part_from-none (column_entry single_part above) wanted last)
tiled_columns above row wanted last is (suc k) high =
    let a : ℕ → Part = column_entry single_part above in
    let back : suc k - 1 ≡ k = omega arith in
    IsTiledAt-only a (column_entry single_part row) (wanted (suc k)) last (suc k) (is.places (suc k) (omega arith) high)
    ∙ ap (λ l. part_by (a (suc k)) (a (suc k - 1)) (a (suc k + 1)) l (wanted (suc k)) last (suc k))
    (ap (column_entry single_part row) back ∙ tiled_columns above row wanted last is k (omega arith)
    ∙ sym (ap (part_from a wanted last) back))
    ∙ sym (part_from-at a wanted last (suc k) (omega arith))

pub IsTiledRow-by_columns : (above row : List Part) (wanted : ℕ → Size) (last : Bool) → IsTiledRow above wanted last row
    → row ≡ row_of (part_from (column_entry single_part above) wanted last)
IsTiledRow-by_columns above row wanted last is =
    row_by_column single_part (part_from (column_entry single_part above) wanted last) row is.columns
    (λ c low high. tiled_columns above row wanted last is c high)

-- ---- the sizes that are wanted in the columns alone count

part_from-same : (above : ℕ → Part) (wanted other : ℕ → Size) (last : Bool)
    → ((c : ℕ) → 1 ≤ c → c ≤ 40 → wanted c ≡ other c) → (c : ℕ) → c ≤ 40
    → part_from above wanted last c ≡ part_from above other last c
part_from-same above wanted other last same zero high =
    part_from-none above wanted last ∙ sym (part_from-none above other last)
part_from-same above wanted other last same (suc k) high =
    let back : suc k - 1 ≡ k = omega arith in
    let left : part_from above wanted last (suc k - 1) ≡ part_from above other last (suc k - 1) =
    ap (part_from above wanted last) back ∙ part_from-same above wanted other last same k (omega arith)
    ∙ sym (ap (part_from above other last) back) in
    part_from-at above wanted last (suc k) (omega arith)
    ∙ (λ i. part_by (above (suc k)) (above (suc k - 1)) (above (suc k + 1)) (left i) (same (suc k) (omega arith) high i)
    last (suc k))
    ∙ sym (part_from-at above other last (suc k) (omega arith))

pub row_of-same : (above : ℕ → Part) (wanted other : ℕ → Size) (last : Bool)
    → ((c : ℕ) → 1 ≤ c → c ≤ 40 → wanted c ≡ other c)
    → row_of (part_from above wanted last) ≡ row_of (part_from above other last)
row_of-same above wanted other last same =
    same_row_of (part_from above wanted last) (part_from above other last)
    (λ c low high. part_from-same above wanted other last same c high)
