use Rattle.cept_drcs.proofs.Laws
use Rattle.cept_drcs.proofs.law.units.patterns_grow_where_a_byte_fits.Goals as goal

pub returns : goal.returns
returns c = record {
  longer = Laws.longer;
  no_longer = Laws.no_longer;
  last = Laws.grows_by_last;
}
