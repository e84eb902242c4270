use Rattle.cept_codes.specs.Cell.{blank_cell}
use Rattle.cept_codes.specs.Table.{entry, HasMadeEntries}
use Rattle.cept_cells.specs.inside.Erased.{cell_after_erasing}
use Rattle.cept_cells.proofs.grid.erase_from.Given as goal

abbrev pub invariant-loop-i : goal.invariant-loop-i
invariant-loop-i l =
    HasMadeEntries blank_cell 1 40 (cell_after_erasing l.from (entry blank_cell 1 l.fn.cells))
    (entry blank_cell 1 l.fn.cells) l.cells l.i
