use Rattle.cept_profile.proofs.Laws
use Rattle.cept_profile.proofs.law.names_of_rows.names_come_from_above_or_the_left.Goals as goal

pub returns : goal.returns
returns c = record {
  above = Laws.names_at-lower;
  left = Laws.names_at-right;
  itself = Laws.names_at-itself;
  row = Laws.names_at-from_above;
  covered = Laws.names_at-covered;
}
