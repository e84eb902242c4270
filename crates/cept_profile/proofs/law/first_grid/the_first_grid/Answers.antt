use Rattle.cept_profile.proofs.Laws
use Rattle.cept_profile.proofs.FirstGrid.{state-none}
use Rattle.cept_profile.proofs.law.first_grid.the_first_grid.Goals as goal

pub returns : goal.returns
returns c = record {
  state = state-none;
  blank = Laws.look_of-blank_cell;
  grid = Laws.grid-none;
}
