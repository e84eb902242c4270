use Rattle.std.proofs.Common.{◌-◌, not, ap, ◌∙◌, arith}
use Rattle.cept_codes.specs.declared.cell.Cell.{Cell}
use Rattle.cept_codes.specs.Cell.{blank_cell}
use Rattle.cept_codes.proofs.Laws.{entry_from}
use Rattle.cept_cells.proofs.CellsInSlots.{put_in_slot, value_read}
use Rattle.cept_cells.proofs.grid.Grid.put.Goals as goal

-- the cell there was free where it is answered so
answer : goal.returns-clause-answer
answer c =
    c.put_into.ensures.answer
    ∙ ap (λ (x : Cell). not x.protected)
    (entry_from blank_cell 1 c.index_mut-row.result.now c.in_column.result (omega (arith, c.in_column.ensures))
    ∙ value_read c.self.invariant c.self.view_is c.args.place c.row.result c.index.result
    (c.in_column.result - 1) c.index_mut-row.result.now _ c.row.ensures.on_screen c.row.ensures.row c.index.ensures.index
    (omega (arith, c.in_column.ensures)) c.index_mut-row.ensures.value)

pub returns-clause-answer : goal.returns-clause-answer
returns-clause-answer c = answer c

pub returns-clause-cells : goal.returns-clause-cells
returns-clause-cells c =
    put_in_slot c.self.invariant c.self.view_is c.args.place c.args.cell c.put_into.result
    c.row.result c.in_column.result c.index.result c.index_mut-row.result.now _ _ c.row.ensures.on_screen c.row.ensures.row
    c.in_column.ensures.column c.index.ensures.index c.index_mut-row.ensures.value (answer c) c.put_into.ensures.cells
