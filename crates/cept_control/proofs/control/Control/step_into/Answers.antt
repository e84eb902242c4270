use Rattle.std.proofs.Common.{◌≡◌, ◌≤◌, List, length, sym, subst, ap, ◌∙◌}
use Rattle.std.specs.List.{AllByRecursion}
use Rattle.cept_codes.specs.declared.stroke.Stroke.{Stroke}
use Rattle.cept_codes.specs.Stroke.{IsValidStroke}
use Rattle.cept_profile.specs.Control.{ControlState, control_after, effect}
use Rattle.cept_profile.specs.Strokes.{strokes_of}
use Rattle.cept_profile.specs.Valid.{IsValidControl}
use Rattle.cept_profile.proofs.Laws.{IsValidControl-control_after}
use Rattle.cept_profile.proofs.Laws.{length-strokes_of}
use Rattle.cept_profile.proofs.Laws.{IsValidStroke-strokes_of}
use Rattle.cept_control.proofs.control.Control.step_into.Goals as goal

pub returns-clause-valid : goal.returns-clause-valid
returns-clause-valid c =
    let state : c.take_effect.new.self ≡ control_after c.args.self.now c.args.command.now =
    c.take_effect.ensures.state ∙ ap (λ (s : ControlState). (effect s c.args.command.now).0) c.prepare.ensures.ready in
    subst (λ (s : ControlState). IsValidControl s) (sym state)
    (IsValidControl-control_after c.args.self.now c.args.command.now c.prepare.ensures.was_valid c.requires)

pub returns-clause-valid_strokes : goal.returns-clause-valid_strokes
returns-clause-valid_strokes c =
    let strokes : c.take_effect.new.strokes.items ≡ strokes_of c.args.self.now c.args.command.now =
    c.take_effect.ensures.strokes ∙ ap (λ (s : ControlState). (effect s c.args.command.now).1) c.prepare.ensures.ready in
    subst (λ (xs : List Stroke). AllByRecursion IsValidStroke xs) (sym strokes)
    (IsValidStroke-strokes_of c.args.self.now c.args.command.now c.prepare.ensures.was_valid c.requires)

pub returns-clause-few : goal.returns-clause-few
returns-clause-few c =
    let strokes : c.take_effect.new.strokes.items ≡ strokes_of c.args.self.now c.args.command.now =
    c.take_effect.ensures.strokes ∙ ap (λ (s : ControlState). (effect s c.args.command.now).1) c.prepare.ensures.ready in
    subst (λ (xs : List Stroke). length xs ≤ 128) (sym strokes)
    (length-strokes_of c.args.self.now c.args.command.now c.requires)
