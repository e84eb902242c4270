use Rattle.cept_profile.proofs.Laws
use Rattle.cept_profile.proofs.law.reach.rows_that_do_not_move.Goals as goal

pub returns : goal.returns
returns c = record {
  row = Laws.row_before-still;
  written = Laws.is_written-still;
}
