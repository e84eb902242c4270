-- Worked tables: which points each figure adds or takes away, and the values of mosaics, by computing.
use Rattle.std.proofs.Common.{◌≡◌, ℕ, List, [], ◌∷◌, ◌++◌, codes, map, replicate, Bool, true, false, refl}
use Rattle.std.specs.Prelude.{if◌then◌else◌}
use Rattle.std.specs.List.{range_with_len}
use Rattle.cept_codes.specs.declared.glyph.SetId.TheVariants.{D, M, N, P, S}
use Rattle.cept_plot.specs.declared.figure.Figure.{Figure}
use Rattle.cept_plot.specs.declared.figure.Figure.TheVariants.{Line, Plot, Sides, Unplot, Wipe}
use Rattle.cept_plot.specs.declared.figure.Point.{Point}
use Rattle.cept_plot.specs.Commands.{code_of_value}
use Rattle.cept_plot.specs.Figures.{points_after, points_of_line}
use Rattle.cept_plot.specs.Points.{column_of_point, row_of_point, value_of_code}

-- ---- figures

abbrev at : ℕ → ℕ → Point
at x y = record { x = x; y = y }

-- the first six points of the first five rows: # for one in the set, a full stop for any other
abbrev picture_of : (ℕ → ℕ → Bool) → List (List ℕ)
picture_of f = map (λ y. map (λ x. if f x y then 0x23 else 0x2E) (range_with_len 0 6)) (range_with_len 0 5)

-- a figure on a field without points, and on one with all of them
abbrev added : Figure → List (List ℕ)
added figure = picture_of (points_after (λ x y. false) figure)

abbrev left : Figure → List (List ℕ)
left figure = picture_of (points_after (λ x y. true) figure)

-- no point, and all
abbrev none : List (List ℕ)
none = replicate 5 (codes "......")

abbrev all : List (List ℕ)
all = replicate 5 (codes "######")

plot_adds : added (Plot (at 4 1))
    ≡ codes "......" ∷ codes "....#." ∷ codes "......" ∷ codes "......" ∷ codes "......" ∷ []
plot_adds = refl

unplot_takes_away : left (Unplot (at 4 1))
    ≡ codes "######" ∷ codes "####.#" ∷ codes "######" ∷ codes "######" ∷ codes "######" ∷ []
unplot_takes_away = refl

line_adds : added (Line (at 1 3) (at 4 1))
    ≡ codes "......" ∷ codes "....#." ∷ codes "..##.." ∷ codes ".#...." ∷ codes "......" ∷ []
unfolding points_of_line
line_adds = refl

-- first and last row and column, with the corners
box_adds_its_sides : added (Sides (at 1 1) (at 4 3))
    ≡ codes "......" ∷ codes ".####." ∷ codes ".#..#." ∷ codes ".####." ∷ codes "......" ∷ []
box_adds_its_sides = refl

-- first and last row and column, and all within
wipe_takes_away : left (Wipe (at 1 1) (at 4 3))
    ≡ codes "######" ∷ codes "#....#" ∷ codes "#....#" ∷ codes "#....#" ∷ codes "######" ∷ []
wipe_takes_away = refl

-- any two opposite corners, also those of a row, of a column and of a point
other_corners : map added (Sides (at 4 1) (at 1 3) ∷ Sides (at 1 3) (at 4 1) ∷ Sides (at 4 3) (at 1 1) ∷ [])
    ≡ replicate 3 (codes "......" ∷ codes ".####." ∷ codes ".#..#." ∷ codes ".####." ∷ codes "......" ∷ [])
other_corners = refl

other_corners_of_a_wipe : map left (Wipe (at 4 1) (at 1 3) ∷ Wipe (at 1 3) (at 4 1) ∷ Wipe (at 4 3) (at 1 1) ∷ [])
    ≡ replicate 3 (codes "######" ∷ codes "#....#" ∷ codes "#....#" ∷ codes "#....#" ∷ codes "######" ∷ [])
other_corners_of_a_wipe = refl

narrow : map added (Sides (at 2 0) (at 2 0) ∷ Sides (at 4 0) (at 1 0) ∷ Sides (at 5 4) (at 5 1) ∷ [])
    ≡ (codes "..#..." ∷ codes "......" ∷ codes "......" ∷ codes "......" ∷ codes "......" ∷ [])
    ∷ (codes ".####." ∷ codes "......" ∷ codes "......" ∷ codes "......" ∷ codes "......" ∷ [])
    ∷ (codes "......" ∷ codes ".....#" ∷ codes ".....#" ∷ codes ".....#" ∷ codes ".....#" ∷ []) ∷ []
narrow = refl

-- on a field that has what they add, or hasn't what they take away, they change nothing
nothing_more : map left (Plot (at 4 1) ∷ Line (at 1 3) (at 4 1) ∷ Sides (at 1 1) (at 4 3) ∷ []) ≡ replicate 3 all
unfolding points_of_line
nothing_more = refl

nothing_less : map added (Unplot (at 4 1) ∷ Wipe (at 1 1) (at 4 3) ∷ []) ≡ replicate 2 none
nothing_less = refl

-- the sides of the whole field: its four corners, a point of each side, and three within
abbrev probes : List Point
probes =
    at 0 0 ∷ at 79 0 ∷ at 0 71 ∷ at 79 71 ∷ at 40 0 ∷ at 40 71 ∷ at 0 35 ∷ at 79 35 ∷ at 1 1 ∷ at 78 70 ∷ at 40 35 ∷ []

whole_field : map (λ (p : Point). points_after (λ x y. false) (Sides (at 0 0) (at 79 71)) p.x p.y) probes
    ≡ replicate 8 true ++ replicate 3 false
whole_field = refl

-- ---- the cells of points

-- two columns of points in each column of cells, and three rows of points in each row
columns : map column_of_point (0 ∷ 1 ∷ 2 ∷ 3 ∷ 77 ∷ 78 ∷ 79 ∷ []) ≡ 1 ∷ 1 ∷ 2 ∷ 2 ∷ 39 ∷ 40 ∷ 40 ∷ []
columns = refl

rows : map row_of_point (0 ∷ 1 ∷ 2 ∷ 3 ∷ 5 ∷ 68 ∷ 69 ∷ 71 ∷ []) ≡ 1 ∷ 1 ∷ 1 ∷ 2 ∷ 2 ∷ 23 ∷ 24 ∷ 24 ∷ []
rows = refl

-- ---- values

-- of the codes 2/0 to 7/15 of the first mosaic set: 0 to 31, none for 4/0 to 5/15, and 32 to 63
values_of_codes : map (value_of_code M) (range_with_len 0x20 96)
    ≡ range_with_len 0 32 ++ replicate 32 0 ++ range_with_len 32 32
values_of_codes = refl

-- and of no other set
other_sets : map (λ set. map (value_of_code set) (range_with_len 0x20 96)) (P ∷ S ∷ N ∷ D ∷ [])
    ≡ replicate 4 (replicate 96 0)
other_sets = refl

-- the codes of 0 to 63
codes_of_values : map code_of_value (range_with_len 0 64) ≡ range_with_len 0x20 32 ++ range_with_len 0x60 32
codes_of_values = refl
