use Rattle.std.proofs.Common.{◌-◌, refl, arith}
use Rattle.cept_delta.proofs.NotedValues.{cell_of_values}
use Rattle.cept_delta.proofs.delta.Delta.note_cell.Goals as goal

pub returns : goal.returns
returns c =
    cell_of_values c.self.invariant.places c.self.view_is c.args.at c.args.cell.now (c.from-index.result - 1)
    (c.from.result - 1) c.index_mut.result.now _ _ _ c.note.new.place c.row.ensures.on_screen (omega arith)
    (omega arith) c.index_mut.ensures.value refl c.note.ensures
