use Rattle.std.proofs.Common.{◌∙◌}
use Rattle.cept_plot.proofs.PaintedDrawing.{drawing_drawn, drawing_marked, drawing_painted}
use Rattle.cept_plot.proofs.paint.paint_field.Goals as goal

pub returns-clause-painted : goal.returns-clause-painted
returns-clause-painted g c =
    drawing_painted c.valid_by_type.ensures c.paint_opening.ensures c.paint_cells.ensures c.implicit-implicit.ensures.implicit
    c.paint_command.ensures.painted

pub returns-clause-marks : goal.returns-clause-marks
returns-clause-marks g c =
    c.paint_command.ensures.marks
    ∙ drawing_marked c.valid_by_type.ensures c.paint_opening.ensures c.paint_cells.ensures c.implicit-implicit.ensures.implicit
    c.paint_command.ensures.painted

pub returns-clause-drawn : goal.returns-clause-drawn
returns-clause-drawn g c =
    drawing_drawn c.valid_by_type.ensures c.paint_opening.ensures c.paint_cells.ensures c.implicit-implicit.ensures.implicit
    c.paint_command.ensures.painted
