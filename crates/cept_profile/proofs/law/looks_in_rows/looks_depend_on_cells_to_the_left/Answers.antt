use Rattle.cept_profile.proofs.Laws
use Rattle.cept_profile.proofs.law.looks_in_rows.looks_depend_on_cells_to_the_left.Goals as goal

pub returns : goal.returns
returns c = record {
  alike = Laws.look_in_row-alike;
  size = Laws.size_in_row-alike;
  alone = Laws.look_in_row-unmarked;
  single = Laws.size_in_row-single;
}
