use Rattle.std.proofs.Common.{◌≡◌, sym, ap, subst, ◌∙◌}
use Rattle.std.specs.Prelude.{option_map}
use Rattle.cept_profile.specs.OldValues.{with_control}
use Rattle.cept_profile.specs.State.{Page, State}
use Rattle.cept_page.specs.Behind.{page_behind}
use Rattle.cept_page.proofs.Laws.{noted-none}
use Rattle.cept_repaint.specs.Applied.{IsApplied}
use Rattle.cept_repaint.proofs.AppliedCommands.{IsApplied-unseen}
use Rattle.std.proofs.Common.{List, length}
use Rattle.cept_codes.specs.declared.stroke.Stroke.{Stroke}
use Rattle.cept_profile.specs.NotedStrokes.{with_strokes}
use Rattle.cept_profile.specs.Strokes.{strokes_of}
use Rattle.cept_repaint.proofs.NotedStates.{state_behind-control}
use Rattle.cept_repaint.proofs.NotedCommands.{noted-command}
use Rattle.cept_repaint.proofs.screen.Screen.apply_with.Goals as goal

pub returns-clause-applied : goal.returns-clause-applied
returns-clause-applied g c =
    subst (λ (s : State). IsApplied s c.args.command.now c.write_and_paint.new.self c.write_and_paint.new.marks
    (g.G.Glass.state c.args.glass.now) (g.G.Glass.state c.write_and_paint.new.glass) c.args.steps.now
    c.write_and_paint.new.steps) (c.write_attribute.ensures.left c.if-write_attribute.false)
    c.write_and_paint.ensures.applied

pub returns-clause-unwound : goal.returns-clause-unwound
returns-clause-unwound g c =
    state_behind-control (g.N.Noter.noted c.args.noter.now) (g.N.Noter.noted c.note_control.new.self)
    (g.N.Noter.noted c.write_and_paint.new.noter) c.args.self.now c.write_and_paint.new.self
    (subst (λ (s : State). g.N.Noter.noted c.note_control.new.self
    ≡ option_map (with_control s.control) (g.N.Noter.noted c.args.noter.now)) c.self.view_is c.note_control.ensures)
    (c.write_and_paint.ensures.noted.unwound
    ∙ ap (λ (p : Page). page_behind (g.N.Noter.noted c.note_control.new.self) p) c.write_attribute.ensures.page)

pub returns-then-write_attribute-clause-applied : goal.returns-then-write_attribute-clause-applied
returns-then-write_attribute-clause-applied g c =
    IsApplied-unseen c.args.self.now c.args.command.now c.write_attribute.new.self c.write_attribute.new.marks
    (g.G.Glass.state c.args.glass.now) c.args.steps.now c.requires
    (c.write_attribute.ensures.after c.if-write_attribute.true) (sym c.write_attribute.ensures.looks)
    (c.write_attribute.ensures.marks c.if-write_attribute.true)
    (c.write_attribute.ensures.strokes c.if-write_attribute.true)

pub returns-then-write_attribute-clause-unwound : goal.returns-then-write_attribute-clause-unwound
returns-then-write_attribute-clause-unwound g c =
    state_behind-control (g.N.Noter.noted c.args.noter.now) (g.N.Noter.noted c.note_control.new.self)
    (g.N.Noter.noted c.note_control.new.self) c.args.self.now c.write_attribute.new.self
    (subst (λ (s : State). g.N.Noter.noted c.note_control.new.self
    ≡ option_map (with_control s.control) (g.N.Noter.noted c.args.noter.now)) c.self.view_is c.note_control.ensures)
    (ap (λ (p : Page). page_behind (g.N.Noter.noted c.note_control.new.self) p) c.write_attribute.ensures.page)

pub returns-clause-noted : goal.returns-clause-noted
returns-clause-noted g c =
    noted-command c.args.self.now c.args.command.now (g.N.Noter.noted c.args.noter.now)
    (g.N.Noter.noted c.note_control.new.self) (g.N.Noter.noted c.write_and_paint.new.noter)
    (subst (λ (s : State). g.N.Noter.noted c.note_control.new.self
    ≡ option_map (with_control s.control) (g.N.Noter.noted c.args.noter.now)) c.self.view_is c.note_control.ensures)
    (subst (λ (s : State). g.N.Noter.noted c.write_and_paint.new.noter
    ≡ option_map (with_strokes s.page (strokes_of s.control c.args.command.now))
    (g.N.Noter.noted c.note_control.new.self))
    (c.write_attribute.ensures.left c.if-write_attribute.false) c.write_and_paint.ensures.noted.noted)

pub returns-then-write_attribute-clause-noted : goal.returns-then-write_attribute-clause-noted
returns-then-write_attribute-clause-noted g c =
    noted-command c.args.self.now c.args.command.now (g.N.Noter.noted c.args.noter.now)
    (g.N.Noter.noted c.note_control.new.self) (g.N.Noter.noted c.note_control.new.self)
    (subst (λ (s : State). g.N.Noter.noted c.note_control.new.self
    ≡ option_map (with_control s.control) (g.N.Noter.noted c.args.noter.now)) c.self.view_is c.note_control.ensures)
    (noted-none c.args.self.now.page (strokes_of c.args.self.now.control c.args.command.now)
    (g.N.Noter.noted c.note_control.new.self)
    (ap (λ (l : List Stroke). length l) (c.write_attribute.ensures.strokes c.if-write_attribute.true)))
