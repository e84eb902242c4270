use Rattle.cept_drcs.proofs.Laws
use Rattle.cept_drcs.proofs.law.reading.full_states_take_no_byte.Goals as goal

pub returns : goal.returns
returns c = record {
  units = Laws.full_units;
  grows = Laws.full_grows;
}
