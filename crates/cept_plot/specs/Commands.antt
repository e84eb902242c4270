-- The commands that draw a field on a page (this project's own).
use Rattle.std.specs.Prelude.{ℕ, ◌≡◌, ◌+◌, ◌-◌, ◌*◌, ◌/◌, ◌%◌, ◌==◌, ◌&&◌, not, nat_le, nat_lt, Bool, true, false, List, [], ◌∷◌, ◌++◌}
use Rattle.std.specs.Prelude.{flat_map, if◌then◌else◌}
use Rattle.std.specs.List.{range_with_len}
use Rattle.cept_codes.specs.declared.cell.Cell.{Cell}
use Rattle.cept_codes.specs.declared.command.C1Set.TheVariants as c1sets
use Rattle.cept_codes.specs.declared.command.Command.{Command}
use Rattle.cept_codes.specs.declared.command.Command.TheVariants as commands
use Rattle.cept_codes.specs.Cell.{blank_cell}
use Rattle.cept_codes.specs.Place.{OnScreen}
use Rattle.cept_codes.specs.Table.{value_at}
use Rattle.cept_profile.specs.State.{Core}
use Rattle.cept_plot.specs.Points.{OnField, column_of_point, is_in_field, row_of_point, value_in_core}

-- ---- values

-- the weight of a point in its cell, where it is in a set of points, and else 0
abbrev pub weight_if : Bool → ℕ → ℕ
weight_if lit w = if lit then w else 0

-- the value that a set of points gives the cell in row r and column c: the weights of its six points together
abbrev pub value_of_points : (ℕ → ℕ → Bool) → ℕ → ℕ → ℕ
value_of_points f r c =
    let x = 2 * (c - 1) in let y = 3 * (r - 1) in
    weight_if (f x y) 1 + weight_if (f (x + 1) y) 2
    + weight_if (f x (y + 1)) 4 + weight_if (f (x + 1) (y + 1)) 8
    + weight_if (f x (y + 2)) 16 + weight_if (f (x + 1) (y + 2)) 32

-- the code of a value: 2/0 to 3/15, and from 32 on 6/0 to 7/15
abbrev pub code_of_value : ℕ → ℕ
code_of_value v = if nat_lt v 32 then 0x20 + v else 0x40 + v

-- ---- commands

-- a value is written: 0 as a space, any other as a block mosaic, for which G1 is locked to the left bytes
abbrev pub value_commands : ℕ → List Command
value_commands v =
    if v == 0 then commands.Graphic 0x20 ∷ []
    else commands.LockLeft 1 ∷ commands.Graphic (code_of_value v) ∷ commands.LockLeft 0 ∷ []

-- what stands in row r and column c of a core
abbrev pub cell_in_core : Core → ℕ → ℕ → Cell
cell_in_core k r c = value_at blank_cell k.page.cells r c

-- a cell is written: it is within the format, isn't protected, and has another value than the set of points gives it
abbrev pub is_written_anew : Core → (ℕ → ℕ → Bool) → ℕ → ℕ → Bool
is_written_anew k f r c =
    nat_le r k.rows && not (cell_in_core k r c).protected && not (value_in_core k r c == value_of_points f r c)

-- the cell is written where it has to be
abbrev pub cell_commands : Core → (ℕ → ℕ → Bool) → ℕ → ℕ → List Command
cell_commands k f r c =
    if is_written_anew k f r c then commands.Position r c ∷ value_commands (value_of_points f r c) else []

-- the first n cells in reading order, one after the other
unfoldable pub cells_commands : Core → (ℕ → ℕ → Bool) → ℕ → List Command
cells_commands k f n = flat_map (λ i. cell_commands k f (i / 40 + 1) (i % 40 + 1)) (range_with_len 0 n)

-- before them the control state is reset, and implicit scrolling off
abbrev pub opening : List Command
opening = commands.ControlDefaults c1sets.Parallel ∷ commands.Implicit false ∷ []

-- the commands that draw a set of points on a page with this core: in the end implicit scrolling is as it was
abbrev pub drawn : Core → (ℕ → ℕ → Bool) → List Command
drawn k f = opening ++ (cells_commands k f 960 ++ commands.Implicit k.implicit ∷ [])

-- ---- what they do

-- a set of points was drawn on the page of a core
pub record IsDrawnOn (k : Core) (f : ℕ → ℕ → Bool) (now : Core) : Type 0 where
  -- a point whose cell is within the format and isn't protected is in the field exactly where it is in the set
  pub points : (x y : ℕ) → OnField x y → nat_le (row_of_point y) k.rows ≡ true
      → (cell_in_core k (row_of_point y) (column_of_point x)).protected ≡ false
      → is_in_field now x y ≡ f x y
  -- each cell that isn't written stays as it is
  pub others : (r c : ℕ) → OnScreen r c → is_written_anew k f r c ≡ false
      → cell_in_core now r c ≡ cell_in_core k r c
  -- the protection of each cell stays
  pub protection : (r c : ℕ) → OnScreen r c
      → (cell_in_core now r c).protected ≡ (cell_in_core k r c).protected
  -- nothing else of the core changes
  pub settings : now ≡ record k { page = record (k.page) { cells = now.page.cells } }
