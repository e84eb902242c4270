-- The tiled row beneath valid parts is of valid parts, and in a tiled table it is the next row.
use Rattle.std.proofs.Common.{◌≡◌, ℕ, ◌+◌, ◌-◌, ◌≤◌, inl, inr, cond, zero, suc, Bool, true, false, List, sym}
use Rattle.std.proofs.Common.{ap}
use Rattle.std.proofs.Common.{subst, ◌∙◌, arith}
use Rattle.std.proofs.lemmas.Bool.{cases_Bool, cond-true, cond-false}
use Rattle.cept_codes.specs.declared.attribute.Size.{Size}
use Rattle.cept_codes.specs.declared.look.Part.{Part}
use Rattle.cept_codes.specs.Look.{IsValidPart}
use Rattle.cept_codes.specs.Table.{entry, row_of}
use Rattle.cept_codes.proofs.Laws.{entry-list_by_index, row_of-list_by_index}
use Rattle.cept_profile.specs.Tiling.{IsTiled, column_entry, covers_below, is_covered_from_left, origin_part, part_by}
use Rattle.cept_profile.specs.Tiling.{flat_parts, part_from, parts_in, single_part, tiled_row}
use Rattle.cept_profile.proofs.Laws.{tiled_row-beneath}
use Rattle.cept_sizes.specs.Parts.{AreValidParts}
use Rattle.cept_sizes.proofs.RowTiled.{part_from-none, part_from-more}

column_entry-row_of : {X : Type 0} (d : X) (f : ℕ → X) (c : ℕ) → 1 ≤ c → c ≤ 40 → column_entry d (row_of f) c ≡ f c
column_entry-row_of d f c low high =
    ap (λ xs. entry d 1 xs c) (row_of-list_by_index f) ∙ entry-list_by_index d 1 40 f c low (omega arith)

-- the sizes that are wanted in a row of a table, held in a list
pub wanted_here : (d : Size) (sizes : List Size) (wanted : ℕ → Size) → sizes ≡ row_of wanted → (c : ℕ) → 1 ≤ c
    → c ≤ 40 → column_entry d sizes c ≡ wanted c
wanted_here d sizes wanted same c low high =
    ap (λ xs. column_entry d xs c) same ∙ column_entry-row_of d wanted c low high

pub tiled_row-next : (above : List Part) (here : List Size) (d : Size) (last : Bool) (wanted : ℕ → ℕ → Size)
    (is_last : ℕ → Bool) (t : List (List Part)) (r : ℕ) → IsTiled wanted is_last t → 1 ≤ r → r ≤ 24
    → above ≡ parts_in t (r - 1) → here ≡ row_of (wanted r) → last ≡ is_last r
    → tiled_row above (column_entry d here) last ≡ parts_in t r
tiled_row-next above here d last wanted is_last t r is low high above_is here_is last_is =
    (λ i. tiled_row (above_is i) (column_entry d here) (last_is i))
    ∙ tiled_row-beneath wanted is_last t r (column_entry d here) is low high (wanted_here d here (wanted r) here_is)

-- ---- valid parts

-- how wide or high an upper left part is
one_or_two : (twice : Bool) → (1 ≤ cond twice 2 1) × (cond twice 2 1 ≤ 2)
one_or_two true = (omega arith, omega arith)
one_or_two false = (omega arith, omega arith)

IsValidPart-origin_part : (wide high : Bool) → IsValidPart (origin_part wide high)
IsValidPart-origin_part wide high =
    record { down = omega arith; right = omega arith; wide = one_or_two wide; high = one_or_two high }

IsValidPart-part_by : (a al ar l : Part) (size : Size) (last : Bool) (c : ℕ) → IsValidPart a → IsValidPart l
    → IsValidPart (part_by a al ar l size last c)
IsValidPart-part_by a al ar l size last c up before =
    elim (cases_Bool (covers_below a)) [
      | inl covered ↦ subst (λ p. IsValidPart p) (sym (cond-true _ _ _ covered))
          (record { down = omega arith; right = up.right; wide = up.wide; high = up.high })
      | inr free ↦
          elim (cases_Bool (is_covered_from_left al l)) [
            | inl covered ↦ subst (λ p. IsValidPart p) (sym (cond-false _ _ _ free ∙ cond-true _ _ _ covered))
                (record { down = omega arith; right = omega arith; wide = before.wide; high = before.high })
            | inr apart ↦ subst (λ p. IsValidPart p) (sym (cond-false _ _ _ free ∙ cond-false _ _ _ apart))
                (IsValidPart-origin_part _ _)
          ]
    ]

IsValidPart-part_from : (above : ℕ → Part) (wanted : ℕ → Size) (last : Bool)
    → ((c : ℕ) → 1 ≤ c → c ≤ 40 → IsValidPart (above c)) → (c : ℕ) → c ≤ 40
    → IsValidPart (part_from above wanted last c)
IsValidPart-part_from above wanted last valid zero high =
    subst (λ p. IsValidPart p) (sym (part_from-none above wanted last)) (IsValidPart-origin_part false false)
IsValidPart-part_from above wanted last valid (suc k) high =
    let next : k + 1 ≡ suc k = omega arith in
    subst (λ n. IsValidPart (part_from above wanted last n)) next
    (subst (λ p. IsValidPart p) (sym (part_from-more above wanted last k))
    (IsValidPart-part_by (above (k + 1)) (above k) (above (k + 2)) (part_from above wanted last k) (wanted (k + 1)) last
    (k + 1) (valid (k + 1) (omega arith) (omega arith))
    (IsValidPart-part_from above wanted last valid k (omega arith))))

pub IsValidPart-flat_parts : AreValidParts flat_parts
IsValidPart-flat_parts c low high =
    subst (λ p. IsValidPart p) (sym (column_entry-row_of single_part (λ _. single_part) c low high))
    (IsValidPart-origin_part false false)

pub IsValidPart-tiled_row : (above : List Part) (wanted : ℕ → Size) (last : Bool)
    → AreValidParts above → AreValidParts (tiled_row above wanted last)
unfolding tiled_row
IsValidPart-tiled_row above wanted last valid c low high =
    let f : ℕ → Part = part_from (column_entry single_part above) wanted last in
    subst (λ p. IsValidPart p) (sym (column_entry-row_of single_part f c low high))
    (IsValidPart-part_from (column_entry single_part above) wanted last valid c high)
