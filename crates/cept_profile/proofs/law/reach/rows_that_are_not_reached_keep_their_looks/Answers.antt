use Rattle.cept_profile.proofs.Laws
use Rattle.cept_profile.proofs.law.reach.rows_that_are_not_reached_keep_their_looks.Goals as goal

pub returns : goal.returns
returns c = record {
  looks = Laws.look-not_reached;
  came = Laws.row_before-not_reached;
  reach = Laws.reaches-by;
  counted = Laws.rows_in_reach-counted;
  at_most_24 = Laws.rows_in_reach-le;
}
