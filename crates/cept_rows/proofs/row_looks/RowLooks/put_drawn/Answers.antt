use Rattle.cept_rows.proofs.KeptRows.{put_drawn_kept, put_drawn_shown}
use Rattle.cept_rows.proofs.row_looks.RowLooks.put_drawn.Goals as goal

pub invariant_of-self : goal.invariant_of-self
invariant_of-self c =
    rw c.index-k.ensures.index (put_drawn_kept c.self.inside c.args.column c.args.look c.args.drawing.now
    c.has_pattern.result c.self.invariant c.index-k.ensures.in_range.0 c.index-k.ensures.in_range.1
    c.has_pattern.ensures c.requires)

pub returns : goal.returns
returns c =
    rw c.index-k.ensures.index (put_drawn_shown c.self.inside c.args.self.now c.args.column c.args.look
    c.args.drawing.now c.has_pattern.result c.self.invariant c.self.view_is c.index-k.ensures.in_range.0
    c.index-k.ensures.in_range.1)
