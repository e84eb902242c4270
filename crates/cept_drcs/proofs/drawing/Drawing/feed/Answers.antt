use Rattle.std.proofs.Common.{sym, ◌∙◌}
use Rattle.cept_drcs.proofs.Takes.{fed_pixels, unfed_pixels}
use Rattle.cept_drcs.proofs.drawing.Drawing.feed.Goals as goal

pub returns-then-has_room : goal.returns-then-has_room
returns-then-has_room c =
    fed_pixels c.args.self.now _ c.args.byte c.has_room.result (sym c.has_pixels.ensures ∙ c.if-has_pixels.true)
    c.has_room.ensures c.if-has_room.true c.pixels.ensures

pub returns-else-has_room : goal.returns-else-has_room
returns-else-has_room c =
    unfed_pixels c.args.self.now c.args.byte c.has_room.result (sym c.has_pixels.ensures ∙ c.if-has_pixels.true)
    c.has_room.ensures c.if-has_room.false
