use Rattle.cept_rows.proofs.KeptRows.{put_short, put_shown}
use Rattle.cept_rows.proofs.row_looks.RowLooks.put_single.Goals as goal

pub invariant_of-self : goal.invariant_of-self
invariant_of-self c =
    rw c.index.ensures.index (put_short c.self.inside c.args.column c.args.look c.self.invariant
    c.index.ensures.in_range.0 c.index.ensures.in_range.1 c.requires.look.plain c.requires.low c.requires.look.small)

pub returns : goal.returns
returns c =
    rw c.index.ensures.index (put_shown c.self.inside c.args.self.now c.args.column c.args.look c.self.inside.tall
    c.self.invariant c.self.view_is c.index.ensures.in_range.0 c.index.ensures.in_range.1 c.requires.look.plain)
