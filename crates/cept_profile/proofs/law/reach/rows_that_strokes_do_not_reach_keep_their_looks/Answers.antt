use Rattle.cept_profile.proofs.Laws
use Rattle.cept_profile.proofs.law.reach.rows_that_strokes_do_not_reach_keep_their_looks.Goals as goal

pub returns : goal.returns
returns c = record {
  looks = Laws.look-unreached;
  came = Laws.row_before-unreached;
  reach = Laws.is_reached-by;
  leads = Laws.LeadsTo-state_after;
}
