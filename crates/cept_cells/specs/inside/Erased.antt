-- Rows whose unprotected cells are blanked from a column on (own).
use Rattle.std.specs.Prelude.{ℕ, not, ◌&&◌, nat_le, if◌then◌else◌}
use Rattle.cept_codes.specs.declared.cell.Cell.{Cell}
use Rattle.cept_codes.specs.Cell.{blank_cell}

-- the cell at a column after the erasing, by what the cells of the row were before
abbrev pub cell_after_erasing : ℕ → (ℕ → Cell) → ℕ → Cell
cell_after_erasing from was c = if nat_le from c && not (was c).protected then blank_cell else was c
