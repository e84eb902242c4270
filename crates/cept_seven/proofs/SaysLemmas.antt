-- Bytes say the same with each C1 code in two bytes.
use Rattle.std.proofs.Common.{◌≡◌, ℕ, zero, suc, ◌+◌, ◌-◌, ◌≤◌, true, false, eqb, List, [], ◌∷◌, ◌++◌}
use Rattle.std.proofs.Common.{length, map, cond, Option, Some, None, refl, sym, ap, ◌∙◌, subst, arith, inl, inr}
use Rattle.std.proofs.lemmas.Bool.{cases_Bool, both_ways, eqb-true}
use Rattle.std.proofs.lemmas.Bool.Decides.{nat_tests}
use Rattle.std.proofs.lemmas.List.{append_assoc, append-nil, length-append, drop_at}
use Rattle.std.proofs.lemmas.List.Concat.{flat_map-append}
use Rattle.cept_codes.specs.declared.command.Command.TheVariants as command
use Rattle.cept_codes.specs.declared.item.Reason.TheVariants.{Interrupted}
use Rattle.cept_codes.specs.declared.item.Item.{Item}
use Rattle.cept_codes.specs.declared.item.Said.{Said}
use Rattle.cept_codes.specs.declared.item.Said.TheVariants.{Command as Says, Refused}
use Rattle.cept_parser.specs.declared.context.Context.{Context}
use Rattle.cept_parser.specs.declared.context.Mode.TheVariants.{Text}
use Rattle.cept_parser.specs.declared.context.Outcome.{Outcome}
use Rattle.cept_parser.specs.Bytes.{is_plain, is_between, is_empty, begins_sequence, is_sequence}
use Rattle.cept_parser.specs.Context.{start_context, with_mode}
use Rattle.cept_parser.specs.Controls.{one_byte}
use Rattle.cept_parser.specs.Escape.{escape}
use Rattle.cept_parser.specs.declared.fit.Fit.TheVariants.{Open}
use Rattle.cept_parser.specs.Fit.{fit}
use Rattle.cept_parser.specs.inside.Waits.{outcome_at_misfit}
use Rattle.cept_parser.specs.Grammar.{unit, fits, grows, escape_unit, begins_escape}
use Rattle.cept_parser.specs.Items.{Front, front, waiting_reading}
use Rattle.cept_parser.proofs.LongestBeginningLemmas.{front_of}
use Rattle.cept_parser.specs.Items.{closing_items}
use Rattle.cept_parser.specs.inside.Waits.{said_at_end}
use Rattle.cept_parser.specs.ReadsAs.{said_from, said_with_end}
use Rattle.cept_parser.proofs.BreakerLemmas.{breaker_fails}
use Rattle.cept_parser.proofs.EndedUnitLemmas.{said_ended, said_last, said_none}
use Rattle.cept_parser.proofs.GrammarLemmas.{fits_one, fits_front}
use Rattle.cept_parser.proofs.LongestBeginningLemmas.{closing_is, front_ended, front_append_more}
use Rattle.cept_parser.proofs.OneByteMoreLemmas.{read_as_open}
use Rattle.cept_parser.proofs.ReadingInPartsLemmas.{read_step}
use Rattle.cept_seven.specs.Seven.{is_c1}
use Rattle.cept_seven.specs.Wide.{wide_byte, wide, says}

-- ---- one C1 code before other bytes

code_says : (a : ℕ) → 0x80 ≤ a → a ≤ 0x9F → one_byte a ≡ Says (command.C1 (a - 0x80))
unfolding one_byte
code_says a l m = grind (arith, nat_tests)

pair_says : (f : ℕ) → 0x40 ≤ f → f ≤ 0x5F → eqb f 0x5B ≡ false → escape (f ∷ []) ≡ Says (command.C1 (f - 0x40))
unfolding escape
pair_says f l m e = grind (arith, nat_tests)

pair_fits : (x : Context) (a : ℕ) (t : List ℕ) → 0x80 ≤ a → a ≤ 0x9F → eqb a 0x9B ≡ false
    → fits x (0x1B ∷ (a - 0x40) ∷ t) ≡ fits x (a ∷ t)
unfolding fits begins_escape begins_sequence
pair_fits x a t l m e =
    let e1 : is_plain a ≡ false = grind (arith, nat_tests) in
    let e2 : eqb a 0x12 ≡ false = grind (arith, nat_tests) in
    let e3 : eqb a 0x1B ≡ false = grind (arith, nat_tests) in
    let e4 : eqb a 0x1F ≡ false = grind (arith, nat_tests) in
    let e5 : eqb (a - 0x40) 0x5B ≡ false = grind (arith, nat_tests) in
    let e6 : is_between 0x30 0x7F (a - 0x40) ≡ true = grind (arith, nat_tests) in
    rw (e1, e2, e3, e, e4, e5, e6) refl

pair_unit : (x : Context) (a : ℕ) (t : List ℕ) → 0x80 ≤ a → a ≤ 0x9F → eqb a 0x9B ≡ false
    → unit x (0x1B ∷ (a - 0x40) ∷ t) ≡ unit x (a ∷ t)
unfolding unit escape_unit is_sequence
pair_unit x a [] l m e =
    let e1 : is_plain a ≡ false = grind (arith, nat_tests) in
    let e2 : eqb a 0x12 ≡ false = grind (arith, nat_tests) in
    let e3 : eqb a 0x1B ≡ false = grind (arith, nat_tests) in
    let e4 : eqb a 0x1F ≡ false = grind (arith, nat_tests) in
    let e5 : eqb (a - 0x40) 0x5B ≡ false = grind (arith, nat_tests) in
    let e6 : is_between 0x30 0x7F (a - 0x40) ≡ true = grind (arith, nat_tests) in
    let e7 : escape ((a - 0x40) ∷ []) ≡ Says (command.C1 (a - 0x40 - 0x40)) =
    pair_says (a - 0x40) (omega arith) (omega arith) e5 in
    let e8 : a - 0x40 - 0x40 ≡ a - 0x80 = omega arith in
    rw (e1, e2, e3, e, e4, e5, e6, e7, code_says a l m, e8) refl
pair_unit x a (c ∷ t) l m e =
    let e1 : is_plain a ≡ false = grind (arith, nat_tests) in
    let e2 : eqb a 0x12 ≡ false = grind (arith, nat_tests) in
    let e3 : eqb a 0x1B ≡ false = grind (arith, nat_tests) in
    let e4 : eqb a 0x1F ≡ false = grind (arith, nat_tests) in
    let e5 : eqb (a - 0x40) 0x5B ≡ false = grind (arith, nat_tests) in
    let e6 : is_between 0x30 0x7F (a - 0x40) ≡ true = grind (arith, nat_tests) in
    rw (e1, e2, e3, e, e4, e5, e6) refl

-- a byte before others fits, and is whole, as in its wide form
pub record IsSame (x : Context) (u v : List ℕ) : Type 0 where
  pub fit : fits x u ≡ fits x v
  pub whole : unit x u ≡ unit x v

csi_same : (x : Context) (t : List ℕ) → IsSame x (0x1B ∷ 0x5B ∷ t) (0x9B ∷ t)
unfolding fits unit begins_escape escape_unit
csi_same x t = record { fit = refl; whole = refl }

c1_range : (a : ℕ) → is_c1 a ≡ true → (0x80 ≤ a) × (a ≤ 0x9F)
c1_range a h = (grind (arith, nat_tests), grind (arith, nat_tests))

first_same : (x : Context) (a : ℕ) (t : List ℕ) → IsSame x (wide_byte a ++ t) (a ∷ t)
first_same x a t =
    elim (cases_Bool (is_c1 a)) [
      | inr f ↦ rw f (record { fit = refl; whole = refl })
      | inl c ↦ rw c (elim (cases_Bool (eqb a 0x9B)) [
        | inl e ↦ subst (λ (n : ℕ). IsSame x (0x1B ∷ (n - 0x40) ∷ t) (n ∷ t)) (sym (eqb-true a 0x9B e)) (csi_same x t)
        | inr e ↦ record {
          fit = pair_fits x a t (c1_range a c).0 (c1_range a c).1 e;
          whole = pair_unit x a t (c1_range a c).0 (c1_range a c).1 e;
        }
      ])
    ]

-- ---- after its first byte a unit has plain bytes, which are as they are

fits_beginning : (x : Context) (u s : List ℕ) → fits x (u ++ s) ≡ true → fits x u ≡ true
fits_beginning x u [] h = subst (λ (v : List ℕ). fits x v ≡ true) (append-nil u) h
fits_beginning x u (c ∷ s) h =
    fits_front x u c (fits_beginning x (u ++ c ∷ []) s (subst (λ (v : List ℕ). fits x v
    ≡ true) (sym (append_assoc u (c ∷ []) s)) h))

plain_wide : (c : ℕ) → is_plain c ≡ true → wide_byte c ≡ c ∷ []
plain_wide c h = let e : is_c1 c ≡ false = grind (arith, nat_tests) in rw e refl

rest_plain : (x : Context) (a c : ℕ) (p s : List ℕ) → fits x (a ∷ p ++ c ∷ s) ≡ true → is_plain c ≡ true
rest_plain x a c p s h =
    elim (cases_Bool (is_plain c)) [
      | inl e ↦ e
      | inr e ↦ absurd (both_ways (fits x (a ∷ p ++ c ∷ [])) (breaker_fails x a c p e)
          (fits_beginning x (a ∷ p ++ c ∷ []) s (subst (λ (v : List ℕ). fits x (a ∷ v)
          ≡ true) (sym (append_assoc p (c ∷ []) s)) h)))
    ]

rest_wide : (x : Context) (a : ℕ) (p t : List ℕ) → fits x (a ∷ p ++ t) ≡ true → wide t ≡ t
rest_wide x a p [] h = refl
rest_wide x a p (c ∷ s) h =
    rw (plain_wide c (rest_plain x a c p s h)) (ap (λ v. c ∷ v) (rest_wide x a (p ++ c ∷ []) s (subst (λ (v : List ℕ). fits x (a ∷ v)
    ≡ true) (sym (append_assoc p (c ∷ []) s)) h)))

-- ---- the first item

-- no byte is left after these, or the next one doesn't fit
abbrev Ends : Context → List ℕ → List ℕ → Type 0
Ends x u [] = Unit {0}
Ends x u (c ∷ s) = fits x (u ++ c ∷ []) ≡ false

-- bytes that begin with this one, cut where the longest beginning ends that fits
record Cut (x : Context) (a : ℕ) (b : List ℕ) : Type 0 where
  front : List ℕ
  rest : List ℕ
  joins : front ++ rest ≡ b
  fit : fits x (a ∷ front) ≡ true
  ends : Ends x (a ∷ front) rest

cut_after : (x : Context) (a : ℕ) (p v : List ℕ) → fits x (a ∷ p) ≡ true → Cut x a (p ++ v)
cut_after x a p [] h = record { front = p; rest = []; joins = refl; fit = h; ends = tt }
cut_after x a p (c ∷ s) h =
    elim (cases_Bool (fits x (a ∷ p ++ c ∷ []))) [
      | inl t ↦ subst (Cut x a) (append_assoc p (c ∷ []) s) (cut_after x a (p ++ c ∷ []) s t)
      | inr f ↦ record { front = p; rest = c ∷ s; joins = refl; fit = h; ends = f }
    ]

-- what the first item says, and then the rest, by what the beginning wholly is
abbrev said_by : Context → ℕ → Option Outcome → List ℕ → List Said
said_by x at w [] = said_at_end w ∷ []
said_by x at w (c ∷ s) = (outcome_at_misfit x w).said ∷ said_from (outcome_at_misfit x w).next at (c ∷ s)

open_is : (x : Context) (u : List ℕ) → fits x u ≡ true → unit x u ≡ None → Open ≡ fit x u
open_is x u h e = rw (h, e) refl

waiting_says : (x : Context) (at : ℕ) (u : List ℕ) → is_empty u ≡ false
    → said_with_end (waiting_reading x at u) ≡ said_at_end (unit x u) ∷ []
waiting_says x at u n =
    let item : Item = record { at = at; len = length u; what = said_at_end (unit x u) } in
    ap (map (λ i. i.what)) (closing_is (waiting_reading x at u) ∙ ap (λ b. cond b [] (item ∷ [])) n)

interrupted_front : (x : Context) (c : ℕ) (u : List ℕ) → fits x u ≡ true → unit x u ≡ None
    → fits x (u ++ c ∷ []) ≡ false
    → front x (u ++ c ∷ []) ≡ Some (record { said = Refused Interrupted; size = length u; next = with_mode x Text })
unfolding front_of
interrupted_front x c u h e m = front_ended x u c h m ∙ ap (front_of x (length u) false (grows x u)) e

interrupted : (x : Context) (at c : ℕ) (u s : List ℕ) → fits x u ≡ true → unit x u ≡ None
    → fits x (u ++ c ∷ []) ≡ false
    → said_from x at (u ++ c ∷ s) ≡ Refused Interrupted ∷ said_from (with_mode x Text) (at + length u) (c ∷ s)
unfolding closing_items
interrupted x at c u s h e m =
    let f : Front = record { said = Refused Interrupted; size = length u; next = with_mode x Text } in
    let all : front x (u ++ c ∷ s) ≡ Some f =
    subst (λ (v : List ℕ). front x v ≡ Some f) (append_assoc u (c ∷ []) s)
    (front_append_more x (u ++ c ∷ []) s f (interrupted_front x c u h e m)) in
    ap said_with_end (read_step x at (u ++ c ∷ s) f all)
    ∙ ap (λ (v : List ℕ). Refused Interrupted ∷ said_from (with_mode x Text) (at + length u) v)
    (drop_at u (c ∷ s) (length u) refl)

said_cut : (x : Context) (at : ℕ) (u v : List ℕ) → is_empty u ≡ false → fits x u ≡ true → Ends x u v
    → said_from x at (u ++ v) ≡ said_by x (at + length u) (unit x u) v
unfolding said_at_end
said_cut x at u v n h m = cut_go (unit x u) v refl m
  where
    cut_go : (w : Option Outcome) (v : List ℕ) → unit x u ≡ w → Ends x u v
        → said_from x at (u ++ v) ≡ said_by x (at + length u) w v
    cut_go (Some o) [] e m = ap (said_from x at) (append-nil u) ∙ said_last x at u o e
    cut_go None [] e m =
        ap (said_from x at) (append-nil u) ∙ ap said_with_end (read_as_open x at u (open_is x u h e))
        ∙ waiting_says x at u n ∙ ap (λ w. said_at_end w ∷ []) e
    cut_go (Some o) (c ∷ s) e m = said_ended x at c u s o e m
    cut_go None (c ∷ s) e m = interrupted x at c u s h e m

-- ---- all items

some_wide : (a : ℕ) (t : List ℕ) → is_empty (wide_byte a ++ t) ≡ false
some_wide a t = elim (cases_Bool (is_c1 a)) [ inl e ↦ rw e refl | inr e ↦ rw e refl ]

breaks : (x : Context) (u : List ℕ) (c : ℕ) → is_empty u ≡ false → is_plain c ≡ false → fits x (u ++ c ∷ []) ≡ false
breaks x [] c n h = absurd cc
breaks x (a ∷ u) c n h = breaker_fails x a c u h

ends_wide : (x : Context) (a : ℕ) (t v : List ℕ) → Ends x (a ∷ t) v → Ends x (wide_byte a ++ t) (wide v)
ends_wide x a t [] m = tt
ends_wide x a t (c ∷ s) m =
    elim (cases_Bool (is_c1 c)) [
      | inl e ↦ rw e (breaks x (wide_byte a ++ t) 0x1B (some_wide a t) refl)
      | inr e ↦ rw e (ap (fits x) (append_assoc (wide_byte a) t (c ∷ [])) ∙ (first_same x a (t ++ c ∷ [])).fit ∙ m)
    ]

-- bytes say the same in their wide form, wherever both stand
abbrev SaysSame : List ℕ → Type 0
SaysSame b = (x : Context) (at from : ℕ) → said_from x from (wide b) ≡ said_from x at b

rest_same : (x : Context) (at from : ℕ) (w : Option Outcome) (v : List ℕ) → SaysSame v
    → said_by x from w (wide v) ≡ said_by x at w v
rest_same x at from w [] h = refl
rest_same x at from w (c ∷ s) h =
    let rest = h (outcome_at_misfit x w).next at from in
    let said = (outcome_at_misfit x w).said in
    elim (cases_Bool (is_c1 c)) [
      | inl e ↦ rw e (ap (λ r. said ∷ r) (rw e at rest))
      | inr e ↦ rw e (ap (λ r. said ∷ r) (rw e at rest))
    ]

cut_same : (x : Context) (at from a : ℕ) (t v : List ℕ) → fits x (a ∷ t) ≡ true → Ends x (a ∷ t) v → SaysSame v
    → said_from x from (wide (a ∷ t ++ v)) ≡ said_from x at (a ∷ t ++ v)
cut_same x at from a t v h m rest =
    let u : List ℕ = wide_byte a ++ t in
    let split : wide (a ∷ t ++ v) ≡ u ++ wide v =
    ap (λ w. wide_byte a ++ w) (flat_map-append wide_byte t v ∙ ap (λ w. w ++ wide v) (rest_wide x a [] t h))
    ∙ sym (append_assoc (wide_byte a) t (wide v)) in
    let same = first_same x a t in
    ap (said_from x from) split
    ∙ said_cut x from u (wide v) (some_wide a t) (same.fit ∙ h) (ends_wide x a t v m)
    ∙ ap (λ w. said_by x (from + length u) w (wide v)) same.whole
    ∙ rest_same x (at + length (a ∷ t)) (from + length u) (unit x (a ∷ t)) v rest
    ∙ sym (said_cut x at (a ∷ t) v refl h m)

says_same : (n : ℕ) (b : List ℕ) → length b ≤ n → SaysSame b
says_same n [] l x at from = said_none x from ∙ sym (said_none x at)
says_same zero (a ∷ b) l x at from = absurd (omega arith)
says_same (suc n) (a ∷ b) l x at from =
    let k = cut_after x a [] b (fits_one x a) in
    let short : length k.rest ≤ n = omega (arith, length-append k.front k.rest, ap length k.joins) in
    subst (λ (w : List ℕ). said_from x from (wide (a ∷ w)) ≡ said_from x at (a ∷ w)) k.joins
    (cut_same x at from a k.front k.rest k.fit k.ends (says_same n k.rest short))

pub wide_says : (b : List ℕ) → says (wide b) ≡ says b
wide_says b = says_same (length b) b (omega arith) start_context 0 0
