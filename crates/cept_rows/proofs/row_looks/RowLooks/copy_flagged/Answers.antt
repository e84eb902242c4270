use Rattle.cept_rows.proofs.CopiedColumns.{flagged_kept, flagged_shown}
use Rattle.cept_rows.proofs.row_looks.RowLooks.copy_flagged.Goals as goal

pub invariant_of-self : goal.invariant_of-self
invariant_of-self c =
    flagged_kept c.self.inside c.from.inside c.args.flags.now c.copy_small.new.looks c.self.invariant c.from.invariant
    c.if-from.false c.copy_small.ensures.columns c.copy_small.ensures.copied

pub returns-else-from : goal.returns-else-from
returns-else-from c =
    flagged_shown c.self.inside c.from.inside c.args.self.now c.args.from.now c.args.flags.now c.copy_small.new.looks
    c.self.invariant c.from.invariant c.self.view_is c.from.view_is c.if-from.false c.copy_small.ensures.copied
