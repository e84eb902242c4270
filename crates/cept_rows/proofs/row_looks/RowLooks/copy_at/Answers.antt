use Rattle.cept_rows.proofs.KeptRows.{copied_kept, copied_shown}
use Rattle.cept_rows.proofs.row_looks.RowLooks.copy_at.Goals as goal

pub invariant_of-self : goal.invariant_of-self
invariant_of-self c =
    rw c.index-k.ensures.index (copied_kept c.self.inside c.from.inside c.args.column _
    c.self.invariant c.from.invariant c.index-k.ensures.in_range.0 c.index-k.ensures.in_range.1 c.if-from.false)

pub returns-else-from : goal.returns-else-from
returns-else-from c =
    rw c.index-k.ensures.index (copied_shown c.self.inside c.from.inside c.args.self.now
    c.args.from.now c.args.column _ c.self.invariant c.from.invariant c.self.view_is c.from.view_is
    c.index-k.ensures.in_range.0 c.index-k.ensures.in_range.1 c.if-from.false)
