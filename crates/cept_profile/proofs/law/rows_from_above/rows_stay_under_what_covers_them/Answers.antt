use Rattle.cept_profile.proofs.Laws
use Rattle.cept_profile.proofs.law.rows_from_above.rows_stay_under_what_covers_them.Goals as goal

pub returns : goal.returns
returns c = record {
  row = Laws.row_from_above-same;
  rows = Laws.looks_in-same;
  covering = Laws.covering-same;
}
