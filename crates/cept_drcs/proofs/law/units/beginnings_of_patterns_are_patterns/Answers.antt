use Rattle.cept_drcs.proofs.Laws
use Rattle.cept_drcs.proofs.law.units.beginnings_of_patterns_are_patterns.Goals as goal

pub returns : goal.returns
returns c = Laws.beginning
