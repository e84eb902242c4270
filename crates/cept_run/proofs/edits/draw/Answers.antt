use Rattle.cept_run.proofs.DrawnPages.{drawn_on}
use Rattle.cept_run.proofs.edits.draw.Goals as goal

pub returns : goal.returns
returns g c = drawn_on _ _ _ _ _ _ _ _ _ c.of-field.ensures.points c.draw.ensures.points c.paint_field.ensures.painted
