use Rattle.std.proofs.Common.{◌∙◌}
use Rattle.cept_scroll.proofs.Laws.{row_read}
use Rattle.cept_cells.proofs.grid.Grid.cells.Goals as goal

pub returns-clause-cells : goal.returns-clause-cells
returns-clause-cells c = λ d.
    c.index-2.ensures
    ∙ row_read c.self.invariant c.self.view_is c.args.row c.index.result _ d
    c.requires.from_top c.requires.to_bottom c.index.ensures.index
