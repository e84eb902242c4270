use Rattle.cept_rows.proofs.KeptRows.{drawing_at}
use Rattle.cept_rows.proofs.row_looks.RowLooks.drawing.Goals as goal

pub returns : goal.returns
returns c =
    rw c.index.ensures.index (drawing_at c.self.inside c.args.self.now c.args.column _ c.self.invariant c.self.view_is
    c.index.ensures.in_range.0 c.index.ensures.in_range.1 c.requires)
