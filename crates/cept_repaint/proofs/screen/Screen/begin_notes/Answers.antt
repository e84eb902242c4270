use Rattle.std.proofs.Common.{ap, ◌∙◌}
use Rattle.cept_profile.specs.Control.{ControlState}
use Rattle.cept_profile.specs.OldValues.{OldValues, no_old_values, unwound, with_control}
use Rattle.cept_profile.proofs.Laws.{unwound-begun}
use Rattle.cept_repaint.proofs.screen.Screen.begin_notes.Goals as goal

pub returns-clause-unwound : goal.returns-clause-unwound
returns-clause-unwound c =
    ap (λ (old : OldValues). unwound c.args.self.now old) c.restart.ensures
    ∙ ap (λ (k : ControlState). unwound c.args.self.now (with_control k no_old_values)) c.control.ensures.control
    ∙ unwound-begun c.args.self.now c.control.ensures.valid
