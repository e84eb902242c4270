use Rattle.cept_plot.proofs.PaintedInTurn.{painted_more}
use Rattle.cept_plot.proofs.paint.paint_opening.Goals as goal

pub returns : goal.returns
returns g c = painted_more c.paint_command.ensures.painted c.paint_command-2.ensures.painted
