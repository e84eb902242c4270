use Rattle.std.proofs.Common.{[], sym, subst}
use Rattle.cept_profile.specs.State.{State}
use Rattle.cept_profile.specs.Valid.{IsValidState}
use Rattle.cept_profile.proofs.Laws.{IsValidState-start}
use Rattle.cept_editor.proofs.KeptStates.{StandsAfter-start}
use Rattle.cept_editor.proofs.editor.Editor.new.Goals as goal

pub returns-clause-stands : goal.returns-clause-stands
returns-clause-stands c = StandsAfter-start _ [] tt c.in_ok-new.ensures (c.in_ok-new-2.ensures.past _)
    (c.in_ok-new-2.ensures.future _)

pub invariant_of-result : goal.invariant_of-result
invariant_of-result c = record {
  none_begun = c.in_ok-new-2.ensures.none_begun;
  fits = c.in_ok-new-2.ensures.fits _
      (subst (λ (s : State). IsValidState s) (sym c.in_ok-new.ensures) IsValidState-start);
}
