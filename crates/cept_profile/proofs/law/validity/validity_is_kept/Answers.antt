use Rattle.cept_profile.proofs.Laws
use Rattle.cept_profile.proofs.ValidState.{IsValidCore-of_state, IsValidState-state}
use Rattle.cept_profile.proofs.law.validity.validity_is_kept.Goals as goal

pub returns : goal.returns
returns c = record {
  start = Laws.IsValidState-start;
  control = Laws.IsValidControl-control_after;
  kept = Laws.IsValidState-state_after;
  always = IsValidState-state;
  core = Laws.IsValidCore-core_of;
  of_state = IsValidCore-of_state;
}
