use Rattle.cept_profile.proofs.Laws
use Rattle.cept_profile.proofs.law.reach.rows_come_with_their_cells.Goals as goal

pub returns : goal.returns
returns c = record {
  cells = Laws.cell-from;
  row = Laws.row_before-on;
}
