use Rattle.cept_profile.proofs.FirstGrid.{page-cleared, look-cleared}
use Rattle.cept_profile.proofs.law.first_grid.clearing_blanks_the_cells.Goals as goal

pub returns : goal.returns
returns c = record { page = page-cleared; looks = look-cleared }
