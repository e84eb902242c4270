-- Texts made of a piece for each number, and put piece by piece.
use Rattle.std.proofs.Common.{◌≡◌, ℕ, ◌+◌, ◌-◌, ◌<◌, zero, suc, List, [], ◌++◌, refl, sym, ◌∙◌, ap}
use Rattle.std.proofs.Common.{subst, arith, append_assoc, append-nil, add-zero, add-one}
use Rattle.std.specs.List.{flat_map, range_with_len}
use Rattle.cept_outside.specs.SinkState.{SinkState, Gains, GainsPart}
use Rattle.cept_outside.proofs.Laws.{Gains-nil, Gains-append}
use Rattle.cept_report.proofs.LinesPut.{Gains-part}

-- the pieces of n numbers from a on
unfoldable pub pieces : (ℕ → List ℕ) → ℕ → ℕ → List ℕ
pieces f a n = flat_map f (range_with_len a n)

pub pieces-none : (f : ℕ → List ℕ) (a : ℕ) → pieces f a 0 ≡ []
unfolding pieces
pieces-none f a = refl

pieces-suc : (f : ℕ → List ℕ) (a n : ℕ) → pieces f a (suc n) ≡ pieces f a n ++ f (a + n)
unfolding pieces
pieces-suc f a zero = append-nil (f a) ∙ ap f (sym (add-zero a))
pieces-suc f a (suc n) =
    ap (λ rest. f a ++ rest) (pieces-suc f (a + 1) n) ∙ sym (append_assoc (f a) (pieces f (a + 1) n) (f (a + 1 + n)))
    ∙ ap (λ k. (f a ++ pieces f (a + 1) n) ++ f k) (let e : a + 1 + n ≡ a + suc n = omega arith in e)

-- one piece more
pub pieces-more : (f : ℕ → List ℕ) (a n : ℕ) → pieces f a (n + 1) ≡ pieces f a n ++ f (a + n)
pieces-more f a n = ap (pieces f a) (add-one n) ∙ pieces-suc f a n

pieces-rest : (f : ℕ → List ℕ) (a n d : ℕ) → (rest : List ℕ) × (pieces f a (n + d) ≡ pieces f a n ++ rest)
pieces-rest f a n zero = ([], ap (pieces f a) (add-zero n) ∙ sym (append-nil (pieces f a n)))
pieces-rest f a n (suc d) =
    let before = pieces-rest f a n d in (
      before.0 ++ f (a + (n + d)),
      ap (pieces f a) (let e : n + suc d ≡ (n + d) + 1 = omega arith in e) ∙ pieces-more f a (n + d)
          ∙ ap (λ front. front ++ f (a + (n + d))) before.1
          ∙ append_assoc (pieces f a n) before.0 (f (a + (n + d))),
    )

-- the text goes on after the next piece
pub pieces-go_on : (f : ℕ → List ℕ) (a n m : ℕ) → n < m
    → (rest : List ℕ) × (pieces f a m ≡ (pieces f a n ++ f (a + n)) ++ rest)
pieces-go_on f a n m h =
    let others = pieces-rest f a (n + 1) (m - (n + 1)) in (
      others.0,
      ap (pieces f a) (let e : m ≡ (n + 1) + (m - (n + 1)) = omega arith in e) ∙ others.1
          ∙ ap (λ front. front ++ others.0) (pieces-more f a n),
    )

-- no piece was put
pub Gains-no_piece : (s : SinkState) (f : ℕ → List ℕ) (a : ℕ) → Gains s (pieces f a 0) s
Gains-no_piece s f a = subst (λ (l : List ℕ). Gains s l s) (sym (pieces-none f a)) (Gains-nil s)

-- the next piece was put
pub Gains-piece : (s t u : SinkState) (f : ℕ → List ℕ) (a n : ℕ) (piece : List ℕ) → piece ≡ f (a + n)
    → Gains s (pieces f a n) t → Gains t piece u → Gains s (pieces f a (n + 1)) u
Gains-piece s t u f a n piece is before now =
    subst (λ (l : List ℕ). Gains s l u) (ap (λ l. pieces f a n ++ l) is ∙ sym (pieces-more f a n))
    (Gains-append s t u (pieces f a n) piece before now)

-- a part of the next piece was put
pub Gains-piece_failed : (s t u : SinkState) (f : ℕ → List ℕ) (a n m : ℕ) (piece : List ℕ) → n < m
    → piece ≡ f (a + n) → Gains s (pieces f a n) t → GainsPart t piece u
    → GainsPart s (pieces f a m) u
Gains-piece_failed s t u f a n m piece h is before part =
    let more = pieces-go_on f a n m h in
    Gains-part s t u (pieces f a m) (pieces f a n) piece more.0
    (more.1 ∙ ap (λ l. (pieces f a n ++ l) ++ more.0) (sym is)) before part
