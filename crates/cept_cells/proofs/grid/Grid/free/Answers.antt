use Rattle.std.proofs.Common.{◌-◌, ◌∙◌, arith}
use Rattle.cept_cells.specs.declared.grid.TheConstants.{BLANK_ROW}
use Rattle.cept_scroll.proofs.Laws.{IsTable-rows, row_written}
use Rattle.cept_cells.proofs.ShiftedRows.{cells_freed-set}
use Rattle.cept_cells.proofs.grid.Grid.free.Goals as goal

pub returns : goal.returns
returns c =
    row_written c.self.invariant c.self.view_is c.args.row c.index.result BLANK_ROW
    c.requires.from_top c.requires.to_bottom c.index.ensures.index
    ∙ cells_freed-set (IsTable-rows c.self.invariant c.self.view_is) (c.args.row - 1)
    c.args.row (omega arith) (omega arith)
