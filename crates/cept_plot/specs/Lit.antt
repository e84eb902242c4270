-- A field as the values of its 960 cells, in reading order (this project's own).
use Rattle.std.specs.Prelude.{ℕ, ◌<◌, Bool, List, slice_index_or}
use Rattle.cept_codes.specs.Place.{number}
use Rattle.cept_plot.specs.Points.{column_of_point, has_weight, row_of_point}

-- the value of the cell in row r and column c
abbrev pub value_in : List ℕ → ℕ → ℕ → ℕ
value_in values r c = slice_index_or values (number r c) 0

-- a point is in the field
abbrev pub is_lit : List ℕ → ℕ → ℕ → Bool
is_lit values x y = has_weight (value_in values (row_of_point y) (column_of_point x)) x y

-- each value is one of six weights together
abbrev pub AreValues : List ℕ → Type 0
AreValues values = (n : ℕ) → slice_index_or values n 0 < 64
