-- The value that a set of points gives a cell has the weights of its points, and is that of the sign written for it.
use Rattle.std.proofs.Common.{◌≡◌, ℕ, ◌+◌, ◌-◌, ◌*◌, ◌/◌, ◌%◌, ◌^◌, ◌<◌, ◌≤◌, ◌==◌, Bool, true, false, cond}
use Rattle.std.proofs.Common.{refl, sym, ap, ◌∙◌}
use Rattle.std.proofs.Common.{inl, inr, arith}
use Rattle.std.proofs.lemmas.Bool.{cases_eq, eqb-true}
use Rattle.std.proofs.lemmas.Bool.Decides.{nat_tests}
use Rattle.cept_codes.specs.declared.glyph.Glyph.{Glyph}
use Rattle.cept_codes.specs.declared.glyph.SetId.TheVariants as sets
use Rattle.cept_profile.specs.Sets.{sign}
use Rattle.cept_plot.specs.Commands.{code_of_value, value_of_points, weight_if}
use Rattle.cept_plot.specs.inside.Drawing.{sign_of_value}
use Rattle.cept_plot.specs.Points.{block_of, column_of_point, has_weight, row_of_point, value_of_code}

-- ---- six points as digits of base two

abbrev digit : Bool → ℕ
digit true = 1
digit false = 0

digit-le : (b : Bool) → digit b ≤ 1
digit-le true = omega arith
digit-le false = omega arith

weight_if-digit : (b : Bool) (w : ℕ) → weight_if b w ≡ w * digit b
weight_if-digit true w = omega arith
weight_if-digit false w = omega arith

digit-is : (b : Bool) → (digit b == 1) ≡ b
digit-is true = refl
digit-is false = refl

-- a number of six digits
record IsOfDigits (v a b c d e g : ℕ) : Type 0 where
  sum : v ≡ a + 2 * b + 4 * c + 8 * d + 16 * e + 32 * g
  first : a ≤ 1
  second : b ≤ 1
  third : c ≤ 1
  fourth : d ≤ 1
  fifth : e ≤ 1
  sixth : g ≤ 1

module _ (v a b c d e g : ℕ) (is : IsOfDigits v a b c d e g) where
  digits-lt : v < 64
  digits-lt = omega arith

  digit_0 : v / 1 % 2 ≡ a
  digit_0 = omega arith

  digit_1 : v / 2 % 2 ≡ b
  digit_1 = omega arith

  digit_2 : v / 4 % 2 ≡ c
  digit_2 = omega arith

  digit_3 : v / 8 % 2 ≡ d
  digit_3 = omega arith

  digit_4 : v / 16 % 2 ≡ e
  digit_4 = omega arith

  digit_5 : v / 32 % 2 ≡ g
  digit_5 = omega arith

-- ---- the points of a cell

-- the digits of six points
digits_of : (p q s t u w : Bool)
    → IsOfDigits (weight_if p 1 + weight_if q 2 + weight_if s 4 + weight_if t 8 + weight_if u 16 + weight_if w 32)
    (digit p) (digit q) (digit s) (digit t) (digit u) (digit w)
digits_of p q s t u w = record {
  sum = omega (
    arith,
    weight_if-digit p 1,
    weight_if-digit q 2,
    weight_if-digit s 4,
    weight_if-digit t 8,
    weight_if-digit u 16,
    weight_if-digit w 32,
  );
  first = digit-le p;
  second = digit-le q;
  third = digit-le s;
  fourth = digit-le t;
  fifth = digit-le u;
  sixth = digit-le w;
}

abbrev AreItsDigits : (ℕ → ℕ → Bool) → ℕ → ℕ → ℕ → Type 0
AreItsDigits f x y v =
    IsOfDigits v (digit (f x y)) (digit (f (x + 1) y)) (digit (f x (y + 1))) (digit (f (x + 1) (y + 1)))
    (digit (f x (y + 2))) (digit (f (x + 1) (y + 2)))

its_digits : (f : ℕ → ℕ → Bool) (r c : ℕ) → AreItsDigits f (2 * (c - 1)) (3 * (r - 1)) (value_of_points f r c)
its_digits f r c =
    let x : ℕ = 2 * (c - 1) in let y : ℕ = 3 * (r - 1) in
    digits_of (f x y) (f (x + 1) y) (f x (y + 1)) (f (x + 1) (y + 1)) (f x (y + 2)) (f (x + 1) (y + 2))

pub value_of_points-lt : (f : ℕ → ℕ → Bool) (r c : ℕ) → value_of_points f r c < 64
value_of_points-lt f r c = digits-lt _ _ _ _ _ _ _ (its_digits f r c)

-- a point is said by the digit of its block
said : (f : ℕ → ℕ → Bool) (v x y k a b : ℕ) → block_of x y ≡ k → v / 2 ^ k % 2 ≡ digit (f a b) → a ≡ x → b ≡ y
    → has_weight v x y ≡ f x y
said f v x y k a b at is ex ey =
    ap (λ j. v / 2 ^ j % 2 == 1) at ∙ ap (λ m. m == 1) is ∙ digit-is (f a b) ∙ (λ i. f (ex i) (ey i))

-- by the place of a point in its cell, whose first point is at a and b
by_block : (f : ℕ → ℕ → Bool) (v x y a b : ℕ) → AreItsDigits f a b v → a ≡ 2 * (x / 2) → b ≡ 3 * (y / 3)
    → has_weight v x y ≡ f x y
by_block f v x y a b all ea eb =
    elim (cases_eq (x % 2) 0) [
      | inl even ↦ elim (cases_eq (y % 3) 0) [
        | inl top ↦ said f v x y 0 a b (omega arith) (digit_0 _ _ _ _ _ _ _ all) (omega arith) (omega arith)
        | inr more ↦ elim (cases_eq (y % 3) 1) [
          | inl middle ↦ said f v x y 2 a (b + 1) (omega arith) (digit_2 _ _ _ _ _ _ _ all) (omega arith) (omega arith)
          | inr bottom ↦ said f v x y 4 a (b + 2) (omega arith) (digit_4 _ _ _ _ _ _ _ all) (omega arith) (omega arith)
        ]
      ]
      | inr odd ↦ elim (cases_eq (y % 3) 0) [
        | inl top ↦ said f v x y 1 (a + 1) b (omega arith) (digit_1 _ _ _ _ _ _ _ all) (omega arith) (omega arith)
        | inr more ↦ elim (cases_eq (y % 3) 1) [
          | inl middle ↦
              said f v x y 3 (a + 1) (b + 1) (omega arith) (digit_3 _ _ _ _ _ _ _ all) (omega arith) (omega arith)
          | inr bottom ↦
              said f v x y 5 (a + 1) (b + 2) (omega arith) (digit_5 _ _ _ _ _ _ _ all) (omega arith) (omega arith)
        ]
      ]
    ]

pub has_weight-value_of_points : (f : ℕ → ℕ → Bool) (x y : ℕ)
    → has_weight (value_of_points f (row_of_point y) (column_of_point x)) x y ≡ f x y
has_weight-value_of_points f x y =
    by_block f (value_of_points f (row_of_point y) (column_of_point x)) x y (2 * (column_of_point x - 1))
    (3 * (row_of_point y - 1)) (its_digits f (row_of_point y) (column_of_point x)) (omega arith) (omega arith)

-- ---- the sign of a value

pub value_of_code-code_of_value : (v : ℕ) → v < 64 → value_of_code sets.M (code_of_value v) ≡ v
value_of_code-code_of_value v below = grind (arith, nat_tests)

pub value_of_sign : (v : ℕ) → v < 64 → value_of_code (sign_of_value v).set (sign_of_value v).code ≡ v
value_of_sign v below = by_test (v == 0) refl where
  by_test : (t : Bool) → (v == 0) ≡ t
      → (let g : Glyph = cond t (sign sets.P 0x20) (sign sets.M (code_of_value v)) in value_of_code g.set g.code) ≡ v
  by_test true none = sym (eqb-true v 0 none)
  by_test false some = value_of_code-code_of_value v below

-- the code of a block mosaic, which is never the space
pub code_of_value-range : (v : ℕ) → v < 64 → (v == 0) ≡ false → (0x21 ≤ code_of_value v) × (code_of_value v ≤ 0x7F)
code_of_value-range v below some = (grind (arith, nat_tests), grind (arith, nat_tests))
