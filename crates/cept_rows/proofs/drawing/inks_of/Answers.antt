use Rattle.std.proofs.Common.{◌∙◌}
use Rattle.cept_rows.specs.DrawnWith.{drawn_with}
use Rattle.cept_rows.proofs.Drawings.{more_planes}
use Rattle.cept_rows.proofs.drawing.inks_of.Goals as goal

pub returns-else-planes-eq2 : goal.returns-else-planes-eq2
returns-else-planes-eq2 c patterns =
    c.inks_of_four_planes.ensures patterns
    ∙ more_planes (drawn_with c.args.colours.now patterns) c.args.planes c.if-planes-eq1.false c.if-planes-eq2.false
