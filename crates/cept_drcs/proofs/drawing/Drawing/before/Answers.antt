use Rattle.cept_drcs.proofs.DrawnLines.{nothing_before, line_before}
use Rattle.cept_drcs.proofs.drawing.Drawing.before.Goals as goal

pub returns-then-count-plane_start : goal.returns-then-count-plane_start
returns-then-count-plane_start c =
    nothing_before _ _ _ 0 _ _ c.self.inside.strips _ c.self.view_is c.requires c.len-count.ensures.len
    c.plane_start.ensures.start c.if-count-plane_start.true

pub returns-else-count-plane_start : goal.returns-else-count-plane_start
returns-else-count-plane_start c =
    line_before _ _ _ _ _ _ _ _ _ c.self.inside.strips _ c.self.invariant c.self.view_is c.requires
    c.len-count.ensures.len c.plane_start.ensures.start c.if-count-plane_start.false c.saturating_sub.ensures
    c.at.ensures c.at-else-count-plane_start.ensures
