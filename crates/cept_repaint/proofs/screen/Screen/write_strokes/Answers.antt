use Rattle.std.proofs.Common.{refl, sym, ◌∙◌}
use Rattle.cept_profile.specs.Edges.{edges_of}
use Rattle.cept_repaint.specs.Kept.{state_of_parts}
use Rattle.cept_repaint.proofs.KeptPictures.{AreDrawable-command, IsKept-redrawn, IsKeptOn-state, IsNotedAlong-command}
use Rattle.cept_repaint.proofs.KeptPictures.{IsWritten-redrawn}
use Rattle.cept_repaint.proofs.MovedEdges.{edges-stay}
use Rattle.cept_repaint.proofs.screen.Screen.write_strokes.Goals as goal

pub redraw_within-requires : goal.redraw_within-requires
redraw_within-requires g c =
    let kept = IsKeptOn-state {picture = c.self.inside.picture} {c = c.self.inside.control} c.self.invariant (edges_of c.step_into.new.self)
    (edges-stay c.self.inside.control c.args.command.now c.step_into.new.self (sym c.may_move_edges.ensures ∙ c.if-may_move_edges.false) c.step_into.ensures.state) in
    record {
      kept = kept;
      to = kept.of_core;
      strokes =
          AreDrawable-command c.self.inside.picture.page c.self.inside.control c.self.invariant.valid c.args.command.now
          c.requires c.as_slice-strokes.result.now _
          c.as_slice-strokes.ensures.value c.step_into.ensures.valid_strokes c.step_into.ensures.strokes;
    }

pub returns : goal.returns
returns g c = record {
  written =
      IsWritten-redrawn {was = c.self.inside.picture} {now = c.redraw_within.new.self} {c = c.self.inside.control} {d =
      c.step_into.new.self} c.self.invariant c.args.command.now
      (c.as_slice-strokes.ensures.value ∙ c.step_into.ensures.strokes) c.step_into.ensures.state
      (edges-stay c.self.inside.control c.args.command.now c.step_into.new.self (sym c.may_move_edges.ensures ∙ c.if-may_move_edges.false) c.step_into.ensures.state)
      refl c.redraw_within.ensures.redrawn c.redraw_within.ensures.ticks c.args.self.now c.self.view_is;
  noted =
      IsNotedAlong-command {was = state_of_parts c.self.inside.picture.page c.self.inside.control} c.args.command.now
      (c.as_slice-strokes.ensures.value ∙ c.step_into.ensures.strokes) c.redraw_within.ensures.noted c.args.self.now
      c.self.view_is;
}

pub invariant_of-self : goal.invariant_of-self
invariant_of-self g c =
    IsKept-redrawn {was = c.self.inside.picture} {now = c.redraw_within.new.self} {c = c.self.inside.control} {d =
    c.step_into.new.self} c.self.invariant c.args.command.now c.requires
    (c.as_slice-strokes.ensures.value ∙ c.step_into.ensures.strokes) c.step_into.ensures.state refl
    c.redraw_within.ensures.redrawn
