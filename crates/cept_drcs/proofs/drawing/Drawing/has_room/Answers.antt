use Rattle.cept_drcs.proofs.KeptDrawings.{has_room}
use Rattle.cept_drcs.proofs.drawing.Drawing.has_room.Goals as goal

pub returns : goal.returns
returns c = has_room _ _ _ _ _ _ _ c.self.invariant c.self.view_is c.len.ensures.len
