use Rattle.cept_drcs.proofs.KeptDrawings.{fresh_shown}
use Rattle.cept_drcs.proofs.drawing.Drawing.restart.Goals as goal

pub returns : goal.returns
returns c = fresh_shown c.args.form _ c.clear.ensures
