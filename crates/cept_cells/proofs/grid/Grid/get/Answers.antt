use Rattle.std.proofs.Common.{◌-◌, arith}
use Rattle.cept_cells.proofs.CellsInSlots.{value_read}
use Rattle.cept_cells.proofs.grid.Grid.get.Goals as goal

pub returns : goal.returns
returns c =
    value_read c.self.invariant c.self.view_is c.args.place c.row.result c.index.result
    (c.from.result - 1) c.index-2.result.now _ c.row.ensures.on_screen c.row.ensures.row c.index.ensures.index
    (omega arith) c.index-2.ensures
