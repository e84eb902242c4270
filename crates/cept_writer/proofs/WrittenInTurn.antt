-- Lists by numbers, one number more.
use Rattle.std.proofs.Common.{◌≡◌, ℕ, zero, suc, ◌+◌, List, ◌++◌, flat_map, sym, ap, ◌∙◌, append_assoc}
use Rattle.std.proofs.Common.{arith}
use Rattle.std.proofs.lemmas.List.{append-nil}
use Rattle.std.specs.List.{range_with_len}

-- pieces for one number more
next_piece : {X : Type 0} (f : ℕ → List X) (from n j : ℕ) → from + n ≡ j → flat_map f (range_with_len from (suc n))
    ≡ flat_map f (range_with_len from n) ++ f j
next_piece f from zero j e = append-nil (f from) ∙ ap f (let same : from ≡ j = omega (arith, e) in same)
next_piece f from (suc n) j e =
    ap (λ more. f from ++ more) (next_piece f (from + 1) n j (omega (arith, e)))
    ∙ sym (append_assoc (f from) (flat_map f (range_with_len (from + 1) n)) (f j))

pub one_more : {X : Type 0} (f : ℕ → List X) (from n j : ℕ) → from + n ≡ j → flat_map f (range_with_len from (n + 1))
    ≡ flat_map f (range_with_len from n) ++ f j
one_more f from n j e =
    ap (λ (k : ℕ). flat_map f (range_with_len from k)) (let next : n + 1 ≡ suc n = omega arith in next)
    ∙ next_piece f from n j e

-- a list that has the pieces of n numbers has those of one more
pub one_added : {X : Type 0} (f : ℕ → List X) (from n j : ℕ) (old between new : List X) → from + n ≡ j
    → between ≡ old ++ flat_map f (range_with_len from n) → new ≡ between ++ f j
    → new ≡ old ++ flat_map f (range_with_len from (n + 1))
one_added f from n j old between new e before added =
    added ∙ ap (λ l. l ++ f j) before ∙ append_assoc old (flat_map f (range_with_len from n)) (f j)
    ∙ ap (λ l. old ++ l) (sym (one_more f from n j e))
