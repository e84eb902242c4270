use Rattle.cept_drcs.proofs.Laws
use Rattle.cept_drcs.proofs.law.units.patterns_have_at_most_100_bytes.Goals as goal

pub returns : goal.returns
returns c = record {
  form = Laws.unit_length;
  hundred = Laws.hundred;
}
