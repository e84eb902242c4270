use Rattle.std.proofs.Common.{List, ap, ◌∙◌}
use Rattle.cept_codes.specs.declared.look.Look.{Look}
use Rattle.cept_profile.specs.Changes.{look_at}
use Rattle.cept_profile.specs.Look.{looks_of, part_of}
use Rattle.cept_profile.specs.State.{State, core_of}
use Rattle.cept_repaint.proofs.LooksSeen.{part_of-look_at}
use Rattle.cept_repaint.proofs.screen.Screen.look.Goals as goal

pub returns-clause-part : goal.returns-clause-part
returns-clause-part c =
    ap (λ (l : Look). part_of l)
    (c.get.ensures.look
    ∙ ap (λ (g : List (List Look)). look_at g c.args.at) c.self.invariant.looks
    ∙ ap (λ (s : State). look_at (looks_of (core_of s)) c.args.at) c.self.view_is)
    ∙ part_of-look_at (core_of c.args.self.now) c.args.at.row c.args.at.column c.get.ensures.on_screen
