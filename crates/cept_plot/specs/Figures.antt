-- The points that the lines of a drawing add and take away (own): each in one look at the whole figure.
use Rattle.std.specs.Prelude.{ℕ, ◌+◌, ◌-◌, ◌*◌, ◌/◌, ◌==◌, ◌&&◌, ◌||◌, nat_le, min, max, Bool, true, false, List, map}
use Rattle.std.specs.Prelude.{if◌then◌else◌}
use Rattle.std.specs.List.{list_any, range_with_len}
use Rattle.cept_plot.specs.declared.figure.Figure.{Figure}
use Rattle.cept_plot.specs.declared.figure.Figure.TheVariants as figures
use Rattle.cept_plot.specs.declared.figure.Point.{Point}
use Rattle.cept_plot.specs.Points.{OnField}

-- the points of a figure are on the field
abbrev pub IsValidFigure : Figure → Type 0
IsValidFigure (figures.Plot p) = OnField p.x p.y
IsValidFigure (figures.Unplot p) = OnField p.x p.y
IsValidFigure (figures.Line p q) = OnField p.x p.y × OnField q.x q.y
IsValidFigure (figures.Sides p q) = OnField p.x p.y × OnField q.x q.y
IsValidFigure (figures.Wipe p q) = OnField p.x p.y × OnField q.x q.y

-- x and y are those of a point
abbrev pub is_point : Point → ℕ → ℕ → Bool
is_point p x y = (x == p.x) && (y == p.y)

-- how far two numbers are apart
abbrev pub distance : ℕ → ℕ → ℕ
distance a b = (a - b) + (b - a)

-- the steps of a line: the greater of its width and its height
abbrev pub steps_of_line : Point → Point → ℕ
steps_of_line p q = max (distance p.x q.x) (distance p.y q.y)

-- the number i of n steps from a on the straight way to b, rounded to the nearest whole number, a half up
abbrev pub on_the_way : ℕ → ℕ → ℕ → ℕ → ℕ
on_the_way a b n i = (2 * ((n - i) * a + i * b) + n) / (2 * n)

-- the point i of n steps from p on the line to q; a line of no step is its one point
abbrev pub point_on_the_way : Point → Point → ℕ → ℕ → Point
point_on_the_way p q n i =
    if n == 0 then p else record { x = on_the_way p.x q.x n i; y = on_the_way p.y q.y n i }

-- its points, from the first to the last
unfoldable pub points_of_line : Point → Point → List Point
points_of_line p q = map (point_on_the_way p q (steps_of_line p q)) (range_with_len 0 (steps_of_line p q + 1))

-- x and y are those of one of these points
abbrev pub is_among : List Point → ℕ → ℕ → Bool
is_among points x y = list_any (λ p. is_point p x y) points

-- x and y are those of a point of a line
abbrev pub is_on_line : Point → Point → ℕ → ℕ → Bool
is_on_line p q x y = is_among (points_of_line p q) x y

-- a number is from the lesser of two to the greater
abbrev pub is_between : ℕ → ℕ → ℕ → Bool
is_between a b v = nat_le (min a b) v && nat_le v (max a b)

-- x and y are in the rectangle with these corners
abbrev pub is_in_rectangle : Point → Point → ℕ → ℕ → Bool
is_in_rectangle p q x y = is_between p.x q.x x && is_between p.y q.y y

-- and on one of its sides
abbrev pub is_on_sides : Point → Point → ℕ → ℕ → Bool
is_on_sides p q x y =
    is_in_rectangle p q x y && (((x == p.x) || (x == q.x)) || ((y == p.y) || (y == q.y)))

-- x and y are those of a point of a figure
abbrev pub is_of_figure : Figure → ℕ → ℕ → Bool
is_of_figure (figures.Plot p) x y = is_point p x y
is_of_figure (figures.Unplot p) x y = is_point p x y
is_of_figure (figures.Line p q) x y = is_on_line p q x y
is_of_figure (figures.Sides p q) x y = is_on_sides p q x y
is_of_figure (figures.Wipe p q) x y = is_in_rectangle p q x y

-- the figure adds its points, and doesn't take them away
abbrev pub adds : Figure → Bool
adds (figures.Unplot p) = false
adds (figures.Wipe p q) = false
adds _ = true

-- a set of points after a figure
abbrev pub points_after : (ℕ → ℕ → Bool) → Figure → ℕ → ℕ → Bool
points_after was figure x y = if is_of_figure figure x y then adds figure else was x y
