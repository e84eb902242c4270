use Rattle.std.proofs.Common.{◌-◌, [], length, refl, ap, ◌∙◌, arith}
use Rattle.cept_codes.proofs.Laws.{length-list_by_index}
use Rattle.cept_cells.proofs.CellsAfterStrokes.{cells_after-erase}
use Rattle.cept_scroll.proofs.Laws.{AreInSlots-set, IsTable-rows, row_read, row_written}
use Rattle.cept_cells.proofs.grid.Grid.erase.Goals as goal

pub returns : goal.returns
returns c =
    row_written c.self.invariant c.self.view_is c.args.row c.index.result _
    c.requires.from_top c.requires.to_bottom c.index.ensures.index
    ∙ cells_after-erase (IsTable-rows c.self.invariant c.self.view_is) refl c.args.row
    c.args.from (c.args.row - 1) _ _ [] c.requires.from_top c.requires.to_bottom (omega arith)
    (c.index_mut.ensures.value ∙ row_read c.self.invariant c.self.view_is c.args.row
    c.index.result _ [] c.requires.from_top c.requires.to_bottom c.index.ensures.index)
    c.erase_from.ensures

pub invariant_of-self : goal.invariant_of-self
invariant_of-self c =
    AreInSlots-set c.self.invariant c.index.result c.erase_from.new.cells c.index.ensures.kept
    (ap length c.erase_from.ensures ∙ length-list_by_index 1 40 _)
