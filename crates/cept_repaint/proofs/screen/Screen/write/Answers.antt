use Rattle.std.proofs.Common.{refl, sym, ap, subst, ◌∙◌}
use Rattle.cept_profile.specs.Control.{ControlState}
use Rattle.cept_profile.specs.Edges.{edges_of}
use Rattle.cept_profile.specs.State.{State}
use Rattle.cept_profile.specs.Strokes.{strokes_of}
use Rattle.cept_profile.proofs.Laws.{IsValidStroke-strokes_of}
use Rattle.cept_control.specs.SignWithin.{put_alone}
use Rattle.cept_repaint.specs.Kept.{IsKept, state_of_parts}
use Rattle.cept_repaint.specs.inside.Applied.{IsWrittenAlong}
use Rattle.cept_repaint.proofs.KeptPictures.{AreDrawable-command, IsKept-redrawn, IsKeptOn-state, IsNotedAlong-command}
use Rattle.cept_repaint.proofs.KeptPictures.{IsWritten-redrawn}
use Rattle.cept_repaint.proofs.screen.Screen.write.Goals as goal

-- ---- a sign

pub redraw_put-requires : goal.redraw_put-requires
redraw_put-requires g c =
    let kept = IsKeptOn-state {picture = c.self.inside.picture} {c = c.self.inside.control} c.self.invariant
    (edges_of c.step_sign.new.self) c.step_sign.ensures.edges in
    record {
      kept = kept;
      to = kept.of_core;
      strokes =
          AreDrawable-command c.self.inside.picture.page c.self.inside.control c.self.invariant.valid c.args.command.now
          c.requires (put_alone c.in-Some.put) (strokes_of c.self.inside.control c.args.command.now)
          (sym c.in-Some.ensures.strokes)
          (IsValidStroke-strokes_of c.self.inside.control c.args.command.now c.self.invariant.valid.control c.requires)
          refl;
    }

pub returns-in-Some : goal.returns-in-Some
returns-in-Some g c = record {
  written =
      IsWritten-redrawn {was = c.self.inside.picture} {now = c.redraw_put.new.self} {c = c.self.inside.control} {d =
      c.step_sign.new.self} c.self.invariant c.args.command.now (sym c.in-Some.ensures.strokes) c.in-Some.ensures.state
      c.step_sign.ensures.edges refl c.redraw_put.ensures.redrawn c.redraw_put.ensures.ticks c.args.self.now
      c.self.view_is;
  noted =
      IsNotedAlong-command {was = state_of_parts c.self.inside.picture.page c.self.inside.control} c.args.command.now
      (sym c.in-Some.ensures.strokes) c.redraw_put.ensures.noted c.args.self.now c.self.view_is;
}

pub invariant_of-self : goal.invariant_of-self
invariant_of-self g c =
    IsKept-redrawn {was = c.self.inside.picture} {now = c.redraw_put.new.self} {c = c.self.inside.control} {d =
    c.step_sign.new.self} c.self.invariant c.args.command.now c.requires (sym c.in-Some.ensures.strokes)
    c.in-Some.ensures.state refl c.redraw_put.ensures.redrawn

-- ---- any other command

pub invariant_of-self-in-None : goal.invariant_of-self-in-None
invariant_of-self-in-None g c =
    subst (λ (d : ControlState). IsKept (state_of_parts c.self.inside.picture.page d) c.self.inside.picture.looks
    c.self.inside.picture.names) (sym (c.step_sign.ensures.left c.in-None.is)) c.self.invariant

pub returns-in-None : goal.returns-in-None
returns-in-None g c =
    subst (λ (s : State). IsWrittenAlong s c.args.command.now c.write_strokes.new.self c.write_strokes.new.marks
    c.args.steps.now c.write_strokes.new.steps (g.N.Noter.noted c.args.noter.now)
    (g.N.Noter.noted c.write_strokes.new.noter))
    (ap (λ (d : ControlState). state_of_parts c.self.inside.picture.page d) (c.step_sign.ensures.left c.in-None.is)
    ∙ c.self.view_is) c.write_strokes.ensures
