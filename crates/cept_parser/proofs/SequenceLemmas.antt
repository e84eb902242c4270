-- A sequence goes on after a byte that isn't its last.
use Rattle.std.proofs.Common.{◌≡◌, ℕ, zero, suc, ◌-◌, ◌≤◌, true, false, List, [], ◌∷◌, length, get_or, take, drop, refl}
use Rattle.std.proofs.Common.{ap, ◌∙◌, arith}
use Rattle.std.proofs.lemmas.List.{take_all}
use Rattle.cept_parser.specs.declared.fit.Fit.{Fit}
use Rattle.cept_parser.specs.Bytes.{is_between, is_plain, sequence}

pub goes_on : (last n : ℕ) (s : List ℕ) (w : Fit) → (n ≡ 0 → ⊥) → 1 ≤ length s
    → false ≡ is_between last 0x7F (get_or s 0 0) → true ≡ is_plain (get_or s 0 0)
    → w ≡ sequence last (n - 1) (take (length s - 1) (drop 1 s)) → w ≡ sequence last n s
goes_on last zero s w z l f p e = absurd (z refl)
goes_on last (suc n) [] w z l f p e = absurd (omega arith)
goes_on last (suc n) (a ∷ u) w z l f p e =
    let less : suc n - 1 ≡ n = omega arith in
    let rest : take (suc (length u) - 1) u ≡ u = take_all (suc (length u) - 1) u (omega arith) in
    e ∙ ap (λ (k : ℕ). sequence last k (take (suc (length u) - 1) u)) less
    ∙ ap (λ (v : List ℕ). sequence last n v) rest ∙ rw (← f, ← p) refl
