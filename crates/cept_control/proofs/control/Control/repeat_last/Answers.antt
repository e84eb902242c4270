use Rattle.std.proofs.Common.{◌≡◌, Option, Some, sym, ap, ◌∙◌}
use Rattle.cept_codes.specs.declared.glyph.Glyph.{Glyph}
use Rattle.cept_profile.specs.Control.{ControlState, control_with}
use Rattle.cept_profile.proofs.Laws.{working_after_repeat}
use Rattle.cept_control.specs.declared.control.Control.TheInside.{Inside}
use Rattle.cept_control.proofs.control.Control.repeat_last.Goals as goal

pub returns-in-Some-clause-state : goal.returns-in-Some-clause-state
returns-in-Some-clause-state c =
    let last : c.args.self.now.working.last ≡ Some c.in-Some.sign =
    ap (λ (s : ControlState). s.working.last) (sym c.self.view_is)
    ∙ ap (λ (s : Inside). s.working.last) (sym c.self-inside.view_is) ∙ c.in-Some.is in
    c.write_copies.ensures.state
    ∙ ap (λ (sign : Option Glyph). control_with c.args.self.now
    (working_after_repeat c.args.count c.args.self.now sign)) (sym last)
