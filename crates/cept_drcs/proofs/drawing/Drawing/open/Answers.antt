use Rattle.cept_drcs.proofs.DrawnLines.{opened_fits, opened_kept, opened_shown}
use Rattle.cept_drcs.proofs.drawing.Drawing.open.Goals as goal

pub pad-requires-clause-more : goal.pad-requires-clause-more
pad-requires-clause-more c =
    opened_fits _ _ _ c.self.inside.strips c.args.self.now _ c.args.plane _ c.self.view_is c.complete.ensures.completed
    c.requires.earlier c.plane_start.ensures.start

pub invariant_of-self : goal.invariant_of-self
invariant_of-self c =
    opened_kept _ _ _ _ c.self.inside.strips _ c.args.self.now _ c.args.plane _ _ c.self.invariant c.self.view_is
    c.complete.ensures.completed c.requires.begun c.requires.earlier c.requires.plane c.plane_start.ensures.start
    c.plane_end-self-inside.ensures.end c.pad.ensures

pub returns : goal.returns
returns c =
    opened_shown _ _ _ c.self.inside.strips _ c.args.self.now _ c.args.plane _ c.self.view_is
    c.complete.ensures.completed c.plane_start.ensures.start c.pad.ensures
