-- Tests that decide equality: of optional values, of the fields of a variant, and of enums by the tests of their
-- variants.
use Rattle.std.proofs.Common.{◌≡◌, inl, inr, List, [], ◌∷◌, Bool, true, false, ◌&&◌, Option, None, Some, Decides, ℕ}
use Rattle.std.proofs.Common.{◌==◌, refl, ap, rules}
use Rattle.std.specs.Option.{option_eq}
use Rattle.std.proofs.lemmas.Bool.Decides.{Decides-like, Decides-and, Decides-eqb}
use mathlib.Core.Bool.{beq}
use denote.Struct.Field.{Field}
use denote.Struct.Values.{Values}
use denote.Enum.Declared.{Record, Choice, values_one}
use denote.Enum.Compared.{Each, by}

-- a test that says true exactly where its arguments are the same
abbrev pub Test : Type 0 → Type 0
Test A = (same : A → A → Bool) × ((x y : A) → Decides (same x y) (x ≡ y))

abbrev pub number_test : Test ℕ
number_test = (◌==◌, Decides-eqb)

pub bool_decides : (a b : Bool) → Decides (beq a b) (a ≡ b)
bool_decides a b = search rules

abbrev pub bool_test : Test Bool
bool_test = (beq, bool_decides)

-- one before those after it
infixr 20 ◌⨾◌
abbrev pub ◌⨾◌ : {A B : Type 0} → A → B → A × B
x ⨾ xs = (x, xs)

-- ---- optional values

pub option_decides : {T : Type 0} (t : Test T) (a b : Option T) → Decides (option_eq t.0 a b) (a ≡ b)
option_decides t None None = (λ e. refl, λ e. refl)
option_decides t None (Some y) = (λ e. cc, λ e. cc)
option_decides t (Some x) None = (λ e. cc, λ e. cc)
option_decides t (Some x) (Some y) = (λ e. ap Some ((t.1 x y).0 e), λ e. (t.1 x y).1 (cc))

-- ---- the fields of a variant: none, one, two or three

abbrev pub no_field : Test (Unit {0})
no_field = (λ x y. true, λ x y. (λ e. refl, λ e. refl))

pub one_decides : {A : Type 0} (t : Test A) (x y : A × Unit {0}) → Decides (t.0 x.0 y.0) (x ≡ y)
one_decides t x y = Decides-like (t.0 x.0 y.0) (λ h. λ i. (h i, tt)) (λ e. ap (λ p. p.0) e) (t.1 x.0 y.0)

abbrev pub one_field : {A : Type 0} → Test A → Test (A × Unit {0})
one_field t = (λ x y. t.0 x.0 y.0, one_decides t)

pub two_decides : {A B : Type 0} (t : Test A) (u : Test B) (x y : A × (B × Unit {0}))
    → Decides (t.0 x.0 y.0 && u.0 x.1.0 y.1.0) (x ≡ y)
two_decides t u x y =
    Decides-like (t.0 x.0 y.0 && u.0 x.1.0 y.1.0) (λ h. λ i. (h.0 i, (h.1 i, tt))) (λ e. (
      ap (λ p. p.0) e,
      ap (λ p. p.1.0) e,
    )) (Decides-and _ _ (t.1 x.0 y.0) (u.1 x.1.0 y.1.0))

abbrev pub two_fields : {A B : Type 0} → Test A → Test B → Test (A × (B × Unit {0}))
two_fields t u = (λ x y. t.0 x.0 y.0 && u.0 x.1.0 y.1.0, two_decides t u)

pub three_decides : {A B C : Type 0} (t : Test A) (u : Test B) (v : Test C) (x y : A × (B × (C × Unit {0})))
    → Decides (t.0 x.0 y.0 && (u.0 x.1.0 y.1.0 && v.0 x.1.1.0 y.1.1.0)) (x ≡ y)
three_decides t u v x y =
    Decides-like (t.0 x.0 y.0 && (u.0 x.1.0 y.1.0 && v.0 x.1.1.0 y.1.1.0)) (λ h. λ i. (
      h.0 i,
      (h.1.0 i, (h.1.1 i, tt)),
    )) (λ e. (ap (λ p. p.0) e, (ap (λ p. p.1.0) e, ap (λ p. p.1.1.0) e)))
    (Decides-and _ _ (t.1 x.0 y.0) (Decides-and _ _ (u.1 x.1.0 y.1.0) (v.1 x.1.1.0 y.1.1.0)))

abbrev pub three_fields : {A B C : Type 0} → Test A → Test B → Test C → Test (A × (B × (C × Unit {0})))
three_fields t u v = (λ x y. t.0 x.0 y.0 && (u.0 x.1.0 y.1.0 && v.0 x.1.1.0 y.1.1.0), three_decides t u v)

-- ---- enums

-- a test of the fields of each variant
abbrev pub Tests : List (List Field) → Type 0
Tests [] = Unit {0}
Tests (Fs ∷ Fss) = Test (Values Fs) × Tests Fss

abbrev pub each : (Fss : List (List Field)) → Tests Fss → Each Bool Fss
each [] t = tt
each (Fs ∷ Fss) t = (t.0.0, each Fss t.1)

choice_decides : (Fss : List (List Field)) (t : Tests Fss) (c d : Choice Fss)
    → Decides (by false false Fss (each Fss t) c d) (c ≡ d)
choice_decides [] t c d = absurd c
choice_decides (Fs ∷ Fss) t (inl x) (inl y) = (λ e. ap inl ((t.0.1 x y).0 e), λ e. (t.0.1 x y).1 (cc))
choice_decides (Fs ∷ Fss) t (inl x) (inr y) = (λ e. cc, λ e. cc)
choice_decides (Fs ∷ Fss) t (inr x) (inl y) = (λ e. cc, λ e. cc)
choice_decides (Fs ∷ Fss) t (inr x) (inr y) =
    (λ e. ap inr ((choice_decides Fss t.1 x y).0 e), λ e. (choice_decides Fss t.1 x y).1 (cc))

-- a derived `==` on an enum decides where it does so on each variant's fields
pub enum_decides : (N : Record) (t : Tests N.parts) (a b : N.D)
    → Decides (by false false N.parts (each N.parts t) (N.as_values a) (N.as_values b)) (a ≡ b)
enum_decides N t a b =
    Decides-like (by false false N.parts (each N.parts t) (N.as_values a) (N.as_values b)) (values_one N a b)
    (λ e. ap N.as_values e) (choice_decides N.parts t (N.as_values a) (N.as_values b))
