use Rattle.cept_rows.proofs.KeptRows.{no_patterns, unset}
use Rattle.cept_rows.proofs.row_looks.RowLooks.is_plain.Goals as goal

pub returns : goal.returns
returns c e =
    no_patterns c.self.inside c.args.self.now c.self.invariant c.self.view_is (unset c.self.inside.patterned e)
