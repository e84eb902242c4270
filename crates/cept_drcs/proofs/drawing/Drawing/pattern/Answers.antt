use Rattle.cept_drcs.proofs.KeptDrawings.{drawn_pattern}
use Rattle.cept_drcs.proofs.drawing.Drawing.pattern.Goals as goal

pub returns : goal.returns
returns c = drawn_pattern _ _ _ _ _ _ _ c.self.invariant c.self.view_is c.words.ensures
