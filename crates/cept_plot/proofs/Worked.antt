-- Points, values and figures, worked.
use Rattle.std.proofs.Common.{◌≡◌, ℕ, true, false, [], ◌∷◌, refl}
use Rattle.cept_codes.specs.declared.cell.What.TheVariants as whats
use Rattle.cept_codes.specs.declared.glyph.SetId.TheVariants as sets
use Rattle.cept_codes.specs.Attribute.{unset_pen}
use Rattle.cept_plot.specs.declared.figure.Figure.TheVariants as figures
use Rattle.cept_plot.specs.declared.figure.Point.{Point}
use Rattle.cept_plot.specs.Figures.{is_in_rectangle, is_on_sides, points_after, points_of_line}
use Rattle.cept_plot.specs.Points.{value_of, value_of_code, weight}

-- the weights of the six blocks, of the last cell too
blocks : weight 0 0 ∷ weight 1 0 ∷ weight 0 1 ∷ weight 1 1 ∷ weight 0 2 ∷ weight 79 71 ∷ []
    ≡ 1 ∷ 2 ∷ 4 ∷ 8 ∷ 16 ∷ 32 ∷ []
blocks = refl

-- the code with the value 31 is 3/15, that with the value 32 is 6/0, and 4/0 to 5/15 have none
values : value_of_code sets.M 0x21 ∷ value_of_code sets.M 0x3F ∷ value_of_code sets.M 0x60 ∷ value_of_code sets.M 0x7F ∷ []
    ≡ 1 ∷ 31 ∷ 32 ∷ 63 ∷ []
values = refl

none : value_of_code sets.M 0x40 ∷ value_of_code sets.M 0x5F ∷ value_of_code sets.P 0x41 ∷ value_of_code sets.N 0x21 ∷ []
    ≡ 0 ∷ 0 ∷ 0 ∷ 0 ∷ []
none = refl

-- written in either way, and nothing for a marker and a blank cell
written : value_of (whats.Serial (record { set = sets.M; code = 0x23; accent = 0 }))
    ∷ value_of (whats.Parallel (record { set = sets.M; code = 0x23; accent = 0 }) unset_pen)
    ∷ value_of whats.Blank ∷ [] ≡ 3 ∷ 3 ∷ 0 ∷ []
written = refl

abbrev at : ℕ → ℕ → Point
at x y = record { x = x; y = y }

-- a half goes to the greater number, in either direction: a line isn't the other's mirror image
half_down : points_of_line (at 0 0) (at 2 1) ≡ at 0 0 ∷ at 1 1 ∷ at 2 1 ∷ []
unfolding points_of_line
half_down = refl

half_up : points_of_line (at 0 1) (at 2 0) ≡ at 0 1 ∷ at 1 1 ∷ at 2 0 ∷ []
unfolding points_of_line
half_up = refl

turned : points_of_line (at 2 0) (at 0 1) ≡ at 2 0 ∷ at 1 1 ∷ at 0 1 ∷ []
unfolding points_of_line
turned = refl

-- the eight octants
steep : points_of_line (at 10 10) (at 11 14) ≡ at 10 10 ∷ at 10 11 ∷ at 11 12 ∷ at 11 13 ∷ at 11 14 ∷ []
unfolding points_of_line
steep = refl

flat_left : points_of_line (at 10 10) (at 6 9) ≡ at 10 10 ∷ at 9 10 ∷ at 8 10 ∷ at 7 9 ∷ at 6 9 ∷ []
unfolding points_of_line
flat_left = refl

-- a line of no step, and a diagonal
one : points_of_line (at 5 5) (at 5 5) ≡ at 5 5 ∷ []
unfolding points_of_line
one = refl

diagonal : points_of_line (at 0 0) (at 2 2) ≡ at 0 0 ∷ at 1 1 ∷ at 2 2 ∷ []
unfolding points_of_line
diagonal = refl

-- any two opposite corners
corners : is_on_sides (at 3 0) (at 0 3) 0 2 ∷ is_on_sides (at 3 0) (at 0 3) 1 2 ∷ is_in_rectangle (at 3 0) (at 0 3) 1 2 ∷ []
    ≡ true ∷ false ∷ true ∷ []
corners = refl

-- a point that is added, one that is taken away, and one beside it
after : points_after (λ x y. false) (figures.Plot (at 1 2)) 1 2 ∷ points_after (λ x y. true) (figures.Wipe (at 0 0) (at 1 1)) 1 1
    ∷ points_after (λ x y. true) (figures.Unplot (at 0 0)) 1 0 ∷ [] ≡ true ∷ false ∷ true ∷ []
after = refl
