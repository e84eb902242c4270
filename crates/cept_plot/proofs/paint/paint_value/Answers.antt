use Rattle.cept_plot.proofs.PaintedCells.{painted_value-none, painted_value-some}
use Rattle.cept_plot.proofs.paint.paint_value.Goals as goal

pub returns-then-value-eq0 : goal.returns-then-value-eq0
returns-then-value-eq0 g c = painted_value-none c.if-value-eq0.true c.paint_command.ensures.painted

pub returns-else-value-eq0 : goal.returns-else-value-eq0
returns-else-value-eq0 g c =
    painted_value-some c.if-value-eq0.false c.code_of_value.ensures.code c.paint_command-else-value-eq0.ensures.painted
    c.paint_command-else-value-eq0-2.ensures.painted c.paint_command-else-value-eq0-3.ensures.painted
