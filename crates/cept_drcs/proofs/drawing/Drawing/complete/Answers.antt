use Rattle.cept_drcs.proofs.KeptDrawings.{completed_shown}
use Rattle.cept_drcs.proofs.DrawnLines.{earlier_lines}
use Rattle.cept_drcs.proofs.drawing.Drawing.complete.Goals as goal

pub returns-then-self-ne6-clause-completed : goal.returns-then-self-ne6-clause-completed
returns-then-self-ne6-clause-completed c =
    completed_shown _ _ _ c.len-count.result c.self.inside.strips _ _ c.self.view_is c.len-count.ensures.len
    c.if-self-ne6.true c.pad.ensures

pub returns-then-self-ne6-clause-earlier : goal.returns-then-self-ne6-clause-earlier
returns-then-self-ne6-clause-earlier c = earlier_lines _ _ _ _ _ _ c.self.invariant c.self.view_is

pub returns-else-self-ne6-clause-earlier : goal.returns-else-self-ne6-clause-earlier
returns-else-self-ne6-clause-earlier c = earlier_lines _ _ _ _ _ _ c.self.invariant c.self.view_is
