use Rattle.cept_drcs.proofs.KeptDrawings.{room_in_pairs}
use Rattle.cept_drcs.proofs.drawing.Drawing.room.Goals as goal

pub returns-else-self-eq6 : goal.returns-else-self-eq6
returns-else-self-eq6 c =
    room_in_pairs _ _ _ _ _ _ _ c.self.invariant c.self.view_is c.requires.begun c.requires.whole c.len.ensures.len
    c.if-self-eq6.false
