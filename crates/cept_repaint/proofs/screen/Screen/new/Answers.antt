use Rattle.std.proofs.Common.{◌≡◌, [], sym, ap, subst, ◌∙◌}
use Rattle.cept_profile.specs.Look.{looks_of}
use Rattle.cept_profile.specs.State.{State, core_of, state}
use Rattle.cept_profile.specs.Valid.{IsValidState}
use Rattle.cept_profile.proofs.Laws.{IsValidState-start}
use Rattle.cept_repaint.proofs.KeptAfter.{same_state}
use Rattle.cept_profile.proofs.Laws.{grid-none}
use Rattle.cept_repaint.proofs.screen.Screen.new.Goals as goal

pub invariant_of-result : goal.invariant_of-result
invariant_of-result c =
    let at_start : (let s : State = record { page = c.in_ok-picture.picture.page; control = c.new-2.result } in s)
    ≡ state [] = same_state _ _ _ _ c.in_ok-picture.ensures.page c.new-2.ensures.start in
    record {
      valid = subst (λ (s : State). IsValidState s) (sym at_start) IsValidState-start;
      looks = c.in_ok-picture.ensures.looks ∙ sym grid-none
          ∙ ap (λ (s : State). looks_of (core_of s)) (sym at_start);
      named = c.in_ok-picture.ensures.names
          (core_of (record { page = c.in_ok-picture.picture.page; control = c.new-2.result }));
    }
