use Rattle.std.proofs.Common.{sym, ap, subst, ◌∙◌}
use Rattle.cept_profile.specs.OldValues.{OldValues, page_unwound, unwound}
use Rattle.cept_profile.specs.State.{State}
use Rattle.cept_profile.specs.Valid.{IsValidPage, IsValidState}
use Rattle.cept_delta.specs.Exchanged.{exchanged, page_exchanged}
use Rattle.cept_repaint.specs.Kept.{state_of_parts}
use Rattle.cept_repaint.proofs.KeptAfter.{AreEdges-state}
use Rattle.cept_repaint.proofs.KeptPictures.{IsKept-restored, IsKeptOn-state, IsPutBack-restored}
use Rattle.cept_repaint.proofs.UnwoundStates.{rows_unwound-control, valid_page_unwound}
use Rattle.cept_repaint.proofs.screen.Screen.exchange_values.Goals as goal

pub exchange-requires : goal.exchange-requires
exchange-requires g c = record {
  kept =
      IsKeptOn-state {picture = c.self.inside.picture} {c = c.self.inside.control}
      c.self.invariant c.edges-before.result c.edges-before.ensures;
  to =
      AreEdges-state (state_of_parts c.self.inside.picture.page c.exchange_control.new.control) c.edges-after.result
      c.edges-after.ensures;
  valid =
      subst (λ (v : OldValues). IsValidPage (page_unwound c.self.inside.picture.page v))
      (sym c.exchange_control.ensures.noted)
      (valid_page_unwound (state_of_parts c.self.inside.picture.page c.self.inside.control) c.args.self.now
      c.args.delta.now c.self.view_is c.requires);
}

pub returns-clause-back : goal.returns-clause-back
returns-clause-back g c =
    IsPutBack-restored {was = c.self.inside.picture} {now = c.exchange.new.self} {c = c.self.inside.control} {d =
    c.exchange_control.new.control} c.self.invariant c.args.delta.now c.exchange_control.ensures.control c.edges-before.ensures
    c.edges-after.ensures c.exchange.ensures.restored
    (ap (page_unwound c.self.inside.picture.page) c.exchange_control.ensures.noted)
    (rows_unwound-control c.args.delta.now _ c.exchange_control.new.self c.edges-before.result c.edges-after.result
    c.self.inside.picture.looks c.exchange.new.self.looks c.exchange_control.ensures.noted) c.args.self.now
    c.self.view_is

pub returns-clause-exchanged : goal.returns-clause-exchanged
returns-clause-exchanged g c =
    c.exchange.ensures.noted
    ∙ ap (page_exchanged c.self.inside.picture.page) c.exchange_control.ensures.noted
    ∙ ap (λ (s : State). exchanged s c.args.delta.now) c.self.view_is

pub returns-clause-was_valid : goal.returns-clause-was_valid
returns-clause-was_valid g c = subst (λ (s : State). IsValidState s) c.self.view_is c.self.invariant.valid

pub invariant_of-self : goal.invariant_of-self
invariant_of-self g c =
    IsKept-restored {was = c.self.inside.picture} {now = c.exchange.new.self} {d = c.exchange_control.new.control}
    c.edges-after.ensures c.exchange.ensures.restored (unwound c.args.self.now c.args.delta.now)
    (returns-clause-back g c).state c.requires
