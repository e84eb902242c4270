use Rattle.std.proofs.Common.{refl, ap, ◌∙◌, Option, unwrap_or}
use Rattle.cept_profile.specs.Control.{ControlState}
use Rattle.cept_profile.specs.OldValues.{unwound}
use Rattle.cept_repaint.specs.Kept.{state_of_parts}
use Rattle.cept_repaint.proofs.KeptAfter.{AreEdges-state}
use Rattle.cept_repaint.proofs.KeptPictures.{IsKept-restored, IsKeptOn-state, IsPutBack-restored}
use Rattle.cept_repaint.proofs.UnwoundStates.{valid_page_unwound}
use Rattle.cept_repaint.proofs.screen.Screen.unwind.Goals as goal

pub unwind-requires : goal.unwind-requires
unwind-requires g c = record {
  kept =
      IsKeptOn-state {picture = c.self.inside.picture} {c = c.self.inside.control}
      c.self.invariant c.edges-before.result c.edges-before.ensures;
  to =
      AreEdges-state (state_of_parts c.self.inside.picture.page c.unwrap_or-self-inside.result) c.edges-after.result
      c.edges-after.ensures;
  valid =
      valid_page_unwound (state_of_parts c.self.inside.picture.page c.self.inside.control) c.args.self.now
      c.args.delta.now c.self.view_is c.requires;
}

pub returns : goal.returns
returns g c =
    IsPutBack-restored {was = c.self.inside.picture} {now = c.unwind.new.self} {c = c.self.inside.control} {d =
    c.unwrap_or-self-inside.result} c.self.invariant c.args.delta.now
    (c.unwrap_or-self-inside.ensures
    ∙ ap (λ (o : Option ControlState). unwrap_or o c.self.inside.control) c.old_control.ensures) c.edges-before.ensures
    c.edges-after.ensures c.unwind.ensures refl refl c.args.self.now c.self.view_is

pub invariant_of-self : goal.invariant_of-self
invariant_of-self g c =
    IsKept-restored {was = c.self.inside.picture} {now = c.unwind.new.self} {d = c.unwrap_or-self-inside.result}
    c.edges-after.ensures c.unwind.ensures (unwound c.args.self.now c.args.delta.now)
    (returns g c).state c.requires
