use Rattle.cept_rows.proofs.KeptRows.{none_covers, unset}
use Rattle.cept_rows.proofs.row_looks.RowLooks.covers_nothing.Goals as goal

pub returns : goal.returns
returns c e = none_covers c.self.inside c.args.self.now c.self.invariant c.self.view_is (unset c.self.inside.tall e)
