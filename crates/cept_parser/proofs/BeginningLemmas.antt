-- What fits is the beginning of what is whole, and what grows is continued by a byte.
use Rattle.std.proofs.Common.{◌≡◌, ℕ, zero, suc, ◌+◌, ◌<◌, true, false, List, [], ◌∷◌, ◌++◌, length, Option, Some}
use Rattle.std.proofs.Common.{None, refl, sym, subst, arith, ◌⊎◌, inl, inr}
use Rattle.std.proofs.lemmas.Bool.{cases_Bool, both_ways}
use Rattle.std.proofs.lemmas.List.{length-append, append_assoc, append-nil}
use Rattle.cept_parser.specs.declared.context.Context.{Context}
use Rattle.cept_parser.specs.declared.context.Outcome.{Outcome}
use Rattle.cept_parser.specs.Grammar.{unit, fits, grows}
use Rattle.cept_parser.specs.Beginning.{IsBeginning, IsContinued}
use Rattle.cept_parser.proofs.GrammarLemmas.{fits_front, whole_fits, plain_fits, whole_ends, open_small}

cases_unit : (o : Option Outcome) → (o ≡ None) ⊎ ((w : Outcome) × (o ≡ Some w))
cases_unit None = inl refl
cases_unit (Some w) = inr (w, refl)

whole_beginning : (x : Context) (u : List ℕ) (w : Outcome) → unit x u ≡ Some w → IsBeginning x u
whole_beginning x u w e =
    record { rest = []; bytes = tt; whole = w; is = subst (λ (v : List ℕ). unit x v ≡ Some w) (sym (append-nil u)) e }

longer_beginning : (x : Context) (u : List ℕ) (c : ℕ) → c < 256 → IsBeginning x (u ++ c ∷ []) → IsBeginning x u
longer_beginning x u c l b =
    record {
      rest = c ∷ b.rest;
      bytes = (l, b.bytes);
      whole = b.whole;
      is =
          subst (λ (v : List ℕ). unit x v ≡ Some b.whole) (append_assoc u (c ∷ []) b.rest) b.is;
    }

-- where bytes aren't whole yet, 7/15 goes on fitting until they are
beginning : (n : ℕ) (x : Context) (u : List ℕ) → 10 < length u + n → fits x u ≡ true → IsBeginning x u
beginning zero x u l h =
    let short : unit x u ≡ None → IsBeginning x u = λ e. let s = open_small x u h e in absurd (omega arith) in
    elim (cases_unit (unit x u)) [ inl e ↦ short e | inr p ↦ whole_beginning x u p.0 p.1 ]
beginning (suc n) x u l h =
    let m : length (u ++ 0x7F ∷ []) ≡ length u + 1 = length-append u (0x7F ∷ []) in
    let longer : unit x u ≡ None → IsBeginning x u = λ e.
    longer_beginning x u 0x7F (omega arith) (beginning n x (u ++ 0x7F
    ∷ []) (omega arith) (plain_fits x u 0x7F refl h e)) in
    elim (cases_unit (unit x u)) [ inl e ↦ longer e | inr p ↦ whole_beginning x u p.0 p.1 ]

-- what fits is the beginning of what is whole
pub fits_beginning : (x : Context) (u : List ℕ) → fits x u ≡ true → IsBeginning x u
fits_beginning x u h = beginning 11 x u (omega arith) h

shorter_fits : (x : Context) (u s : List ℕ) → fits x (u ++ s) ≡ true → fits x u ≡ true
shorter_fits x u [] h = subst (λ (v : List ℕ). fits x v ≡ true) (append-nil u) h
shorter_fits x u (c ∷ s) h =
    fits_front x u c (shorter_fits x (u ++ c ∷ []) s (subst (λ (v : List ℕ). fits x v
    ≡ true) (sym (append_assoc u (c ∷ []) s)) h))

-- and the beginning of what is whole fits
pub beginning_fits : (x : Context) (u : List ℕ) → IsBeginning x u → fits x u ≡ true
beginning_fits x u b = shorter_fits x u b.rest (whole_fits x (u ++ b.rest) b.whole b.is)

-- after a whole unit where a byte fits it grows
pub continued_grows : (x : Context) (u : List ℕ) (o : Outcome) → unit x u ≡ Some o → IsContinued x u → grows x u ≡ true
continued_grows x u o e c =
    let never : grows x u ≡ false → grows x u ≡ true = λ g. absurd (both_ways _ (whole_ends x u o c.byte e g) c.fit) in
    elim (cases_Bool (grows x u)) [ inl t ↦ t | inr t ↦ never t ]
