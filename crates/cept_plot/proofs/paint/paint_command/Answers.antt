use Rattle.cept_plot.proofs.PaintedInTurn.{painted_one}
use Rattle.cept_plot.proofs.paint.paint_command.Goals as goal

pub returns-clause-painted : goal.returns-clause-painted
returns-clause-painted g c = painted_one c.requires c.apply.ensures.applied
