use Rattle.cept_profile.proofs.Laws
use Rattle.cept_profile.proofs.law.rows_from_above.looks_come_from_above_or_the_left.Goals as goal

pub returns : goal.returns
returns c = record {
  above = Laws.look-above;
  left = Laws.look-left;
  itself = Laws.look-itself;
  row = Laws.looks_in-from_above;
}
