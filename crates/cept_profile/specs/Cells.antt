-- Cells (own): what stands at a place is asked of the strokes from the last backwards.
use Rattle.std.specs.Prelude.{ℕ, ◌+◌, ◌-◌, Bool, false, not, ◌&&◌, Option, Some, None, List, [], ◌∷◌, ◌==◌, nat_le}
use Rattle.std.specs.Prelude.{if◌then◌else◌, is_some}
use Rattle.cept_codes.specs.declared.cell.Cell.{Cell}
use Rattle.cept_codes.specs.declared.command.Up.{Up}
use Rattle.cept_codes.specs.declared.command.Up.TheVariants as ways
use Rattle.cept_codes.specs.declared.stroke.Stroke.{Stroke}
use Rattle.cept_codes.specs.declared.stroke.Stroke.TheVariants as strokes
use Rattle.cept_codes.specs.Cell.{blank_cell}
use Rattle.cept_codes.specs.Place.{Place}
use Rattle.cept_codes.specs.Table.{table, value_at}
use Rattle.cept_profile.specs.MovedRows.{MovedRows, moved_rows}

-- the place is in this row and column
abbrev pub is_at : Place → ℕ → ℕ → Bool
is_at p r c = p.row == r && p.column == c

-- what is at row r after the rows of an area went one up or down, by what was at each row; the last or first is blank
abbrev pub shifted : {X : Type 0} → Up → ℕ → ℕ → X → (ℕ → X) → ℕ → X
shifted ways.Up first last blank was r =
    if nat_le first r && nat_le r last then (if r == last then blank else was (r + 1)) else was r
shifted ways.Down first last blank was r =
    if nat_le first r && nat_le r last then (if r == first then blank else was (r - 1)) else was r

-- the cell at row r and column c after a stroke, by the cells before it
abbrev pub cell_after : Stroke → (ℕ → ℕ → Cell) → ℕ → ℕ → Cell
cell_after (strokes.Put p cell) was r c = if is_at p r c && not (was r c).protected then cell else was r c
cell_after (strokes.Erase row from) was r c =
    if r == row && nat_le from c && not (was r c).protected then blank_cell else was r c
cell_after strokes.Wipe was r c = blank_cell
-- the cells of moved rows go up or down with their protection
cell_after (strokes.Shift first last way) was r c = shifted way first last blank_cell (λ q. was q c) r
cell_after (strokes.Carry first last way) was r c = shifted way first last blank_cell (λ q. was q c) r
-- any other changes no cell
cell_after _ was r c = was r c

-- the stroke moves rows
abbrev pub moves_rows : Stroke → Bool
moves_rows stroke = is_some (moved_rows stroke)

-- row r is one of the rows that move
abbrev pub is_moved : Option MovedRows → ℕ → Bool
is_moved None r = false
is_moved (Some moved) r = nat_le moved.first r && nat_le r moved.last

-- the stroke moves what stands in row r, or takes it off the screen
abbrev pub moves : Stroke → ℕ → Bool
moves stroke r = is_moved (moved_rows stroke) r

-- a table of cells after one stroke
abbrev pub cells_after : List (List Cell) → Stroke → List (List Cell)
cells_after cells stroke = table (cell_after stroke (value_at blank_cell cells))

-- and after several
unfoldable pub cells_after_all : List (List Cell) → List Stroke → List (List Cell)
cells_after_all cells [] = cells
cells_after_all cells (stroke ∷ more) = cells_after_all (cells_after cells stroke) more
