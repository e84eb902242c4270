use Rattle.std.proofs.Common.{sym, ap, ◌∙◌}
use Rattle.cept_profile.specs.Look.{looks_of}
use Rattle.cept_profile.specs.State.{State, core_of, state_after}
use Rattle.cept_profile.specs.Strokes.{strokes_of}
use Rattle.cept_repaint.proofs.KeptAfter.{IsKept-still, looks_of-still, state_after-still}
use Rattle.cept_repaint.proofs.screen.Screen.write_attribute.Goals as goal

pub invariant_of-self : goal.invariant_of-self
invariant_of-self c =
    IsKept-still c.self.invariant c.args.command.now c.requires c.step_attribute.new.self c.step_attribute.result
    c.step_attribute.ensures.state c.step_attribute.ensures.strokes c.step_attribute.ensures.left
    c.step_attribute.ensures.edges

pub returns-clause-after : goal.returns-clause-after
returns-clause-after c = λ _.
    state_after-still c.self.inside.picture.page c.self.inside.control c.args.command.now c.step_attribute.new.self
    (c.step_attribute.ensures.state c.if-not-step_attribute.false)
    (c.step_attribute.ensures.strokes c.if-not-step_attribute.false)
    ∙ ap (λ (s : State). state_after s c.args.command.now) c.self.view_is

pub returns-clause-strokes : goal.returns-clause-strokes
returns-clause-strokes c = λ _.
    sym (ap (λ (s : State). strokes_of s.control c.args.command.now) c.self.view_is)
    ∙ c.step_attribute.ensures.strokes c.if-not-step_attribute.false

pub returns-clause-looks : goal.returns-clause-looks
returns-clause-looks c =
    looks_of-still c.self.inside.picture.page c.self.inside.control c.step_attribute.new.self c.step_attribute.ensures.edges
    ∙ ap (λ (s : State). looks_of (core_of s)) c.self.view_is

pub invariant_of-self-2 : goal.invariant_of-self-2
invariant_of-self-2 c =
    IsKept-still c.self.invariant c.args.command.now c.requires c.step_attribute.new.self c.step_attribute.result
    c.step_attribute.ensures.state c.step_attribute.ensures.strokes c.step_attribute.ensures.left
    c.step_attribute.ensures.edges
