use Rattle.std.proofs.Common.{arith}
use Rattle.cept_cells.proofs.CellsInSlots.{set_in_slot}
use Rattle.cept_cells.proofs.grid.Grid.set.Goals as goal

pub returns : goal.returns
returns c =
    set_in_slot c.self.invariant c.self.view_is c.args.at c.args.cell c.row.result c.from.result c.index.result
    c.index_mut.result.now _ c.row.ensures.on_screen c.row.ensures.row (omega arith) c.index.ensures.index
    c.index_mut.ensures.value
