-- The sides of a rectangle as its first and last rows and columns.
use Rattle.std.proofs.Common.{◌≡◌, ℕ, ◌+◌, ◌≤◌, ◌==◌, ◌&&◌, ◌||◌, nat_le, nat_lt, min, max, Bool, true, List, refl, sym, ◌∙◌, arith}
use Rattle.std.proofs.lemmas.Bool.Decides.{nat_tests}
use Rattle.cept_plot.specs.declared.figure.Point.{Point}
use Rattle.cept_plot.specs.Figures.{is_in_rectangle, is_on_sides}
use Rattle.cept_plot.specs.inside.Lit.{IsSet}
use Rattle.cept_plot.proofs.RegionSet.{IsSet-more, IsSet-same}

-- a row of points, and rows of points
abbrev pub in_row : ℕ → ℕ → ℕ → ℕ → ℕ → Bool
in_row row from end x y = (y == row) && (nat_le from x && nat_lt x end)

abbrev pub in_rows : ℕ → ℕ → ℕ → ℕ → ℕ → ℕ → Bool
in_rows top bottom from end x y = (nat_le top y && nat_lt y bottom) && (nat_le from x && nat_lt x end)

-- a point is in the first or the last row, or in the first or the last column
abbrev pub on_four : ℕ → ℕ → ℕ → ℕ → ℕ → ℕ → Bool
on_four l r t b x y =
    ((in_row t l (r + 1) x y || in_row b l (r + 1) x y) || in_rows t (b + 1) l (l + 1) x y)
    || in_rows t (b + 1) r (r + 1) x y

four_sides : (l r t b x y : ℕ) → l ≤ r → t ≤ b
    → ((nat_le l x && nat_le x r && (nat_le t y && nat_le y b)) && (((x == l) || (x == r)) || ((y == t) || (y == b))))
    ≡ on_four l r t b x y
four_sides l r t b x y across down = grind (arith, nat_tests)

either_end : (a b v : ℕ) → ((v == a) || (v == b)) ≡ ((v == min a b) || (v == max a b))
either_end a b v = grind (arith, nat_tests)

sides : (p q : Point) (x y : ℕ) → is_on_sides p q x y
    ≡ on_four (min p.x q.x) (max p.x q.x) (min p.y q.y) (max p.y q.y) x y
sides p q x y =
    (λ i. is_in_rectangle p q x y && (either_end p.x q.x x i || either_end p.y q.y y i))
    ∙ four_sides (min p.x q.x) (max p.x q.x) (min p.y q.y) (max p.y q.y) x y (omega arith) (omega arith)

-- the four set one after the other
pub IsSet-sides : (was one two three now : List ℕ) (p q : Point) (l r t b : ℕ) → l ≡ min p.x q.x → r ≡ max p.x q.x
    → t ≡ min p.y q.y → b ≡ max p.y q.y → IsSet was one true (in_row t l (r + 1))
    → IsSet one two true (in_row b l (r + 1)) → IsSet two three true (in_rows t (b + 1) l (l + 1))
    → IsSet three now true (in_rows t (b + 1) r (r + 1)) → IsSet was now true (is_on_sides p q)
IsSet-sides was one two three now p q l r t b el er et eb first last left right =
    let upper : ℕ → ℕ → Bool = λ x y. in_row t l (r + 1) x y || in_row b l (r + 1) x y in
    let and_left : ℕ → ℕ → Bool = λ x y. upper x y || in_rows t (b + 1) l (l + 1) x y in
    IsSet-same was now true (on_four l r t b) (is_on_sides p q)
    (IsSet-more was three now true and_left (in_rows t (b + 1) r (r + 1)) (on_four l r t b)
    (IsSet-more was two three true upper (in_rows t (b + 1) l (l + 1)) and_left
    (IsSet-more was one two true (in_row t l (r + 1)) (in_row b l (r + 1)) upper first last (λ x y on. refl)) left
    (λ x y on. refl)) right (λ x y on. refl))
    (λ x y on. (λ i. on_four (el i) (er i) (et i) (eb i) x y) ∙ sym (sides p q x y))
