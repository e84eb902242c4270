use Rattle.std.proofs.Common.{List, ap, ◌∙◌, arith}
use Rattle.cept_codes.specs.declared.cell.Cell.{Cell}
use Rattle.cept_scroll.specs.Order.{rows_in_order}
use Rattle.cept_cells.proofs.CellsAfterStrokes.{cells_after-wipe}
use Rattle.cept_cells.proofs.CellsInSlots.{blank_in_slots}
use Rattle.cept_cells.proofs.grid.Grid.wipe.Goals as goal

pub returns : goal.returns
returns c =
    ap (λ (t : List (List Cell)). rows_in_order c.self.inside.order t)
    (cells_after-wipe c.blank_rows.new.rows _ c.self.inside.rows.items c.deref_mut.result.now c.args.self.now _
    c.self.invariant.table c.deref_mut.ensures.value (omega arith) (omega (arith, c.self.invariant.table.rows)) c.blank_rows.ensures)
    ∙ blank_in_slots c.self.inside.order c.self.invariant.ordered
