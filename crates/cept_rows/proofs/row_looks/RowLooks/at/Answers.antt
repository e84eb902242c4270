use Rattle.std.proofs.Common.{◌∙◌}
use Rattle.cept_rows.proofs.KeptRows.{entry_at}
use Rattle.cept_rows.proofs.row_looks.RowLooks.at.Goals as goal

pub returns-clause-look : goal.returns-clause-look
returns-clause-look c =
    c.look_kept.ensures
    ∙ entry_at c.self.inside c.args.self.now c.args.column _ _ c.self.invariant c.self.view_is c.requires.from_left
    c.requires.to_right
