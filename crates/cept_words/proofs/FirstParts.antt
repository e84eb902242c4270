-- The first part of bytes, and the rest.
use Rattle.std.proofs.Common.{◌≡◌, ◌==◌, ℕ, zero, suc, ◌+◌, ◌-◌, ◌<◌, length, Bool, true, false, List, [], ◌∷◌, take, drop}
use Rattle.std.proofs.Common.{slice_index, arith, ap, ◌∙◌, refl, sym}
use Rattle.std.specs.List.{slice_split, onto_first}
use Rattle.std.proofs.lemmas.List.{take_all, length-drop}
use Rattle.std.proofs.lemmas.List.Splits.{slice_split-cons_yes, slice_split-cons_no}

-- the first byte that passes ends the first part
pub part_at : (p : ℕ → Bool) (i : ℕ) (bytes : List ℕ) → i < length bytes
    → ((k : ℕ) → k < i → p (slice_index bytes k) ≡ false) → p (slice_index bytes i) ≡ true
    → slice_split p bytes ≡ take i bytes ∷ slice_split p (drop (suc i) bytes)
part_at p i [] l none here = absurd (omega arith)
part_at p zero (a ∷ bytes) l none here = slice_split-cons_yes p a bytes here
part_at p (suc i) (a ∷ bytes) l none here =
    slice_split-cons_no p a bytes (none 0 (omega arith))
    ∙ ap (onto_first a) (part_at p i bytes (omega arith) (λ k m. none (suc k) (omega arith)) here)

-- bytes of which none passes are one part
pub part_alone : (p : ℕ → Bool) (bytes : List ℕ) → ((k : ℕ) → k < length bytes → p (slice_index bytes k) ≡ false)
    → slice_split p bytes ≡ bytes ∷ []
part_alone p [] none = refl
part_alone p (a ∷ bytes) none =
    slice_split-cons_no p a bytes (none 0 (omega arith))
    ∙ ap (onto_first a) (part_alone p bytes (λ k m. none (suc k) (omega arith)))

-- the same, of a slice
pub part_in : (mark i : ℕ) (bytes : List ℕ) → i < length bytes
    → ((k : ℕ) → k < i → (slice_index bytes k == mark) ≡ false) → (slice_index bytes i == mark) ≡ true
    → slice_split (λ a. a == mark) bytes
    ≡ take i bytes ∷ slice_split (λ a. a == mark) (take (length bytes - (i + 1)) (drop (i + 1) bytes))
part_in mark i bytes l none here =
    part_at (λ a. a == mark) i bytes l none here
    ∙ ap (λ (n : ℕ). take i bytes ∷ slice_split (λ a. a == mark) (drop n bytes)) (let e : suc i ≡ i + 1 = omega arith in e)
    ∙ ap (λ (rest : List ℕ). take i bytes ∷ slice_split (λ a. a == mark) rest)
    (sym (take_all (length bytes - (i + 1)) (drop (i + 1) bytes) (omega (arith, length-drop (i + 1) bytes))))
