use Rattle.cept_drcs.proofs.Laws
use Rattle.cept_drcs.proofs.law.units.patterns_are_valid.Goals as goal

pub returns : goal.returns
returns c = Laws.unit_valid
