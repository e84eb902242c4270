use Rattle.std.proofs.Common.{sym}
use Rattle.cept_repaint.proofs.TakenControl.{IsKept-same_core, settings_differ}
use Rattle.cept_repaint.proofs.screen.Screen.take_control.Goals as goal

pub invariant_of-self : goal.invariant_of-self
invariant_of-self c =
    IsKept-same_core c.self.inside.picture.page c.self.inside.control c.args.control.now c.self.inside.picture.looks c.self.inside.picture.names
    c.known.ensures (c.has_settings_of-same.ensures.same c.if-same.true c.self.inside.picture.page) c.self.invariant

pub returns-else-same-clause-cause : goal.returns-else-same-clause-cause
returns-else-same-clause-cause c = λ no.
    settings_differ c.args.self.now c.self.inside.picture.page c.self.inside.control c.args.control.now (sym c.self.view_is)
    (c.has_settings_of-same.ensures.other no)
