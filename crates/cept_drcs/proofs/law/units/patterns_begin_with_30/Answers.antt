use Rattle.cept_drcs.proofs.Laws
use Rattle.cept_drcs.proofs.law.units.patterns_begin_with_30.Goals as goal

pub returns : goal.returns
returns c = record {
  first = Laws.starts;
  plane = Laws.some_plane;
  none = Laws.no_pattern;
}
