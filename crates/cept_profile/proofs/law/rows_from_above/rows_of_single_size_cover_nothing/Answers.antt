use Rattle.cept_profile.proofs.Laws
use Rattle.cept_profile.proofs.law.rows_from_above.rows_of_single_size_cover_nothing.Goals as goal

pub returns : goal.returns
returns c = record {
  below = Laws.covers_nothing;
  first = Laws.covers_nothing-first;
  itself = Laws.look-single;
}
