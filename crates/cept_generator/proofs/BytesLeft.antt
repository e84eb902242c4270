-- What is left of a page, before and after a piece is taken.
use Rattle.std.proofs.Common.{◌≡◌, ℕ, zero, suc, ◌-◌, Bool, true, false, [], ◌++◌, refl}
use Rattle.std.proofs.Common.{arith, ap}
use Rattle.cept_generator.specs.Generated.{unit_bytes, state_after_unit, bytes_of_units, head_bytes, bytes_left}

pub head_left : (begun : Bool) (n s : ℕ) → begun ≡ false
    → bytes_left begun n s ≡ head_bytes ++ bytes_left true n s
unfolding bytes_left
head_left begun n s h = rw h refl

pub none_left : (begun : Bool) (n s : ℕ) → begun ≡ true → n ≡ 0 → bytes_left begun n s ≡ []
unfolding bytes_left bytes_of_units
none_left begun n s h e = rw (h, e) refl

pub unit_left : (begun : Bool) (n s : ℕ) → begun ≡ true → (n ≡ 0 → ⊥)
    → bytes_left begun n s ≡ unit_bytes s ++ bytes_left begun (n - 1) (state_after_unit s)
unfolding bytes_left bytes_of_units
unit_left begun zero s h l = absurd (l refl)
unit_left begun (suc n) s h l = rw h (ap (λ m. unit_bytes s ++ bytes_of_units m (state_after_unit s)) (omega arith))
