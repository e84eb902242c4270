use Rattle.std.proofs.Common.{◌∙◌}
use Rattle.cept_repaint.specs.Kept.{state_of_parts}
use Rattle.cept_repaint.proofs.KeptAfter.{AreEdges-state}
use Rattle.cept_repaint.proofs.KeptPictures.{AreDrawable-command, IsKept-redrawn, IsKeptOn-state, IsNotedAlong-command}
use Rattle.cept_repaint.proofs.KeptPictures.{IsWritten-redrawn}
use Rattle.cept_repaint.proofs.screen.Screen.write_edges.Goals as goal

pub redraw-requires : goal.redraw-requires
redraw-requires g c = record {
  kept =
      IsKeptOn-state {picture = c.self.inside.picture} {c = c.self.inside.control}
      c.self.invariant c.edges-before.result c.edges-before.ensures;
  to =
      AreEdges-state (state_of_parts c.self.inside.picture.page c.step_into.new.self) c.edges-after.result
      c.edges-after.ensures;
  strokes =
      AreDrawable-command c.self.inside.picture.page c.self.inside.control c.self.invariant.valid c.args.command.now
      c.requires c.as_slice-strokes.result.now _
      c.as_slice-strokes.ensures.value c.step_into.ensures.valid_strokes c.step_into.ensures.strokes;
}

pub returns : goal.returns
returns g c = record {
  written =
      IsWritten-redrawn {was = c.self.inside.picture} {now = c.redraw.new.self} {c = c.self.inside.control} {d =
      c.step_into.new.self} c.self.invariant c.args.command.now
      (c.as_slice-strokes.ensures.value ∙ c.step_into.ensures.strokes) c.step_into.ensures.state c.edges-before.ensures
      c.edges-after.ensures c.redraw.ensures.redrawn c.redraw.ensures.ticks c.args.self.now c.self.view_is;
  noted =
      IsNotedAlong-command {was = state_of_parts c.self.inside.picture.page c.self.inside.control} c.args.command.now
      (c.as_slice-strokes.ensures.value ∙ c.step_into.ensures.strokes) c.redraw.ensures.noted c.args.self.now
      c.self.view_is;
}

pub invariant_of-self : goal.invariant_of-self
invariant_of-self g c =
    IsKept-redrawn {was = c.self.inside.picture} {now = c.redraw.new.self} {c = c.self.inside.control} {d =
    c.step_into.new.self} c.self.invariant c.args.command.now c.requires
    (c.as_slice-strokes.ensures.value ∙ c.step_into.ensures.strokes) c.step_into.ensures.state c.edges-after.ensures
    c.redraw.ensures.redrawn
