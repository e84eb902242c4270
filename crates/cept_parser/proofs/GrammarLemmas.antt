-- The laws of the grammar. The theory of items stands on these alone.
use Rattle.std.proofs.Common.{◌≡◌, ℕ, ◌≤◌, true, false, cond, List, [], ◌∷◌, ◌++◌, length, Option, Some, None}
use Rattle.std.proofs.Common.{refl, ap, arith, ◌⊎◌, inl, inr}
use Rattle.std.proofs.lemmas.Bool.{both_ways}
use Rattle.cept_codes.specs.Command.{IsValidForm}
use Rattle.cept_parser.specs.declared.context.Context.{Context}
use Rattle.cept_parser.specs.declared.context.Outcome.{Outcome}
use Rattle.cept_parser.specs.declared.fit.Fit.{Fit}
use Rattle.cept_parser.specs.declared.fit.Fit.TheVariants.{Misfit, Open, Whole, Longer}
use Rattle.cept_parser.specs.Bytes.{is_plain, is_fit, is_whole, is_longer, Standing}
use Rattle.cept_parser.specs.Grammar.{standing, unit, fits, grows}
use Rattle.cept_parser.specs.Items.{is_refusal}
use Rattle.cept_parser.specs.Beginning.{IsCommandUnit, IsContinued}
use Rattle.cept_parser.proofs.TableLemmas.{longer}
use Rattle.cept_parser.proofs.UnitLemmas.{first_is}

-- no bytes fit
pub fits_none : (x : Context) → fits x [] ≡ true
unfolding fits
fits_none x = refl

-- no bytes are no unit
pub unit_none : (x : Context) → unit x [] ≡ None
unfolding unit
unit_none x = refl

-- every single byte fits
pub fits_one : (x : Context) (c : ℕ) → fits x (c ∷ []) ≡ true
unfolding fits
fits_one x c = (first_is x c).first

-- ---- what is told of a standing

-- what is whole grows or not, and says this
record IsUnit (s : Standing) (o : Outcome) : Type 0 where
  whole : (s.fit ≡ Whole) ⊎ (s.fit ≡ Longer)
  says : s.outcome ≡ o

-- what bytes that stand so wholly are, if they are whole
abbrev unit_of : Standing → Option Outcome
unit_of s = cond (is_whole s.fit) (Some s.outcome) None

unit_is : (s : Standing) (o : Outcome) → unit_of s ≡ Some o → IsUnit s o
unit_is s o e = go s.fit refl e
  where
    go : (w : Fit) → s.fit ≡ w → cond (is_whole w) (Some s.outcome) None ≡ Some o → IsUnit s o
    go Misfit p e = absurd cc
    go Open p e = absurd cc
    go Whole p e = record { whole = inl p; says = cc }
    go Longer p e = record { whole = inr p; says = cc }

pub unit_told : (s : Standing) (o : Outcome) → unit_of s ≡ Some o → (is_whole s.fit ≡ true) × (s.outcome ≡ o)
unit_told s o e =
    let i = unit_is s o e in
    (elim i.whole [ inl w ↦ ap is_whole w | inr w ↦ ap is_whole w ], i.says)

-- what fits and is no unit is open
open_is : (w : Fit) (o : Outcome) → is_fit w ≡ true → cond (is_whole w) (Some o) None ≡ None → w ≡ Open
open_is Misfit o h e = absurd cc
open_is Open o h e = refl
open_is Whole o h e = absurd cc
open_is Longer o h e = absurd cc

-- ---- the laws

-- what is whole fits
pub whole_fits : (x : Context) (u : List ℕ) (o : Outcome) → unit x u ≡ Some o → fits x u ≡ true
unfolding unit fits
whole_fits x u o e =
    elim ((unit_is (standing x u) o e).whole) [ inl w ↦ ap is_fit w | inr w ↦ ap is_fit w ]

-- what fits also fits without its last byte
pub fits_front : (x : Context) (u : List ℕ) (c : ℕ) → fits x (u ++ c ∷ []) ≡ true → fits x u ≡ true
unfolding fits
fits_front x [] c h = refl
fits_front x (a ∷ u) c h = ((first_is x a).laws u).front c h

-- every plain byte fits after bytes that fit and are not whole
pub plain_fits : (x : Context) (u : List ℕ) (c : ℕ) → is_plain c ≡ true → fits x u ≡ true → unit x u ≡ None
    → fits x (u ++ c ∷ []) ≡ true
unfolding fits unit
plain_fits x [] c p h e = (first_is x c).first
plain_fits x (a ∷ u) c p h e = ((first_is x a).laws u).opens c p (open_is _ _ h e)

-- no breaker fits after a byte
pub breaker_fails : (x : Context) (a c : ℕ) (u : List ℕ) → is_plain c ≡ false → fits x (a ∷ u ++ c ∷ []) ≡ false
unfolding fits
breaker_fails x a c u p = ap is_fit (((first_is x a).laws u).breaks c p)

-- after a whole unit that doesn't grow no byte fits
pub whole_ends : (x : Context) (u : List ℕ) (o : Outcome) (c : ℕ) → unit x u ≡ Some o → grows x u ≡ false
    → fits x (u ++ c ∷ []) ≡ false
unfolding unit fits grows
whole_ends x [] o c e g = absurd cc
whole_ends x (a ∷ u) o c e g =
    elim ((unit_is (standing x (a ∷ u)) o e).whole) [
      | inl w ↦ ap is_fit (((first_is x a).laws u).ends c w)
      | inr w ↦ absurd (both_ways _ g (ap is_longer w))
    ]

-- a byte that fits after a whole unit makes a whole unit again
pub whole_again : (x : Context) (u : List ℕ) (c : ℕ) (o : Outcome) → unit x u ≡ Some o → fits x (u ++ c ∷ []) ≡ true
    → IsCommandUnit x (u ++ c ∷ [])
unfolding unit fits
whole_again x [] c o e h = absurd cc
whole_again x (a ∷ u) c o e h =
    let l = (first_is x a).laws u in
    elim ((unit_is (standing x (a ∷ u)) o e).whole) [
      | inl w ↦ absurd (both_ways _ (ap is_fit (l.ends c w)) h)
      | inr w ↦ let k = l.again c w h in
          record { whole = (longer (standing x) (a ∷ u) c).outcome; is = rw k.whole refl; command = k.command }
    ]

-- a refused shape doesn't grow
pub refused_ends : (x : Context) (u : List ℕ) (o : Outcome) → unit x u ≡ Some o → is_refusal o.said ≡ true
    → grows x u ≡ false
unfolding unit grows
refused_ends x [] o e r = absurd cc
refused_ends x (a ∷ u) o e r =
    let i = unit_is (standing x (a ∷ u)) o e in
    elim i.whole [
      | inl w ↦ ap is_longer w
      | inr w ↦ absurd (both_ways _ (((first_is x a).laws u).command w) (rw i.says r))
    ]

-- after a whole unit that grows a byte fits
pub grows_continued : (x : Context) (u : List ℕ) (o : Outcome) → unit x u ≡ Some o → grows x u ≡ true → IsContinued x u
unfolding unit grows fits
grows_continued x [] o e g = absurd cc
grows_continued x (a ∷ u) o e g =
    let l = (first_is x a).laws u in
    elim ((unit_is (standing x (a ∷ u)) o e).whole) [
      | inl w ↦ absurd (both_ways _ (ap is_longer w) g)
      | inr w ↦ let n = l.grows w in record { byte = n.byte; small = n.small; fit = n.fit }
    ]

-- ---- lengths

-- what fits and isn't whole has at most ten bytes
pub open_small : (x : Context) (u : List ℕ) → fits x u ≡ true → unit x u ≡ None → length u ≤ 10
unfolding fits unit
open_small x [] h e = omega arith
open_small x (a ∷ u) h e =
    elim ((first_is x a).short u h) [
      | inl s ↦ omega arith
      | inr k ↦ let w = k.command.whole in absurd (let n = rw w at e in cc)
    ]

-- a refused shape has at most ten bytes
pub refused_small : (x : Context) (u : List ℕ) (o : Outcome) → unit x u ≡ Some o → is_refusal o.said ≡ true
    → length u ≤ 10
unfolding unit fits
refused_small x [] o e r = omega arith
refused_small x (a ∷ u) o e r =
    let i = unit_is (standing x (a ∷ u)) o e in
    elim ((first_is x a).short u (whole_fits x (a ∷ u) o e)) [
      | inl s ↦ omega arith
      | inr k ↦ absurd (both_ways _ k.command.command (rw i.says r))
    ]

-- what fits in a valid context has at most a hundred bytes
pub fits_hundred : (x : Context) (u : List ℕ) → IsValidForm x.form → fits x u ≡ true → length u ≤ 100
unfolding fits
fits_hundred x [] v h = omega arith
fits_hundred x (a ∷ u) v h = elim ((first_is x a).short u h) [ inl s ↦ omega arith | inr k ↦ k.few v ]
