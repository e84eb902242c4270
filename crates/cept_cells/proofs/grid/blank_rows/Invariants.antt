use Rattle.std.proofs.Common.{◌≡◌, ℕ, ◌<◌, List, slice_index_or}
use Rattle.cept_codes.specs.declared.cell.Cell.{Cell}
use Rattle.cept_cells.specs.declared.grid.TheConstants.{BLANK_ROW}
use Rattle.cept_cells.proofs.grid.blank_rows.Given as goal

abbrev pub invariant-loop-row : goal.invariant-loop-row
invariant-loop-row l = (i : ℕ) (d : List Cell) → i < l.row-index → slice_index_or l.rows i d ≡ BLANK_ROW
