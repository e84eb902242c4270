use Rattle.cept_profile.proofs.ProtectedCells.{cell_after-written, cell_after-elsewhere, cell_after-erased}
use Rattle.cept_profile.proofs.ProtectedCells.{cell_after-not_erased, cell_after-protected, cells_after_all-protected}
use Rattle.cept_profile.proofs.ProtectedCells.{cell_after-down, cell_after-down_first, cell_after-up, cell_after-up_last}
use Rattle.cept_profile.proofs.ProtectedCells.{cell_after-wiped, cells_after_all-wiped}
use Rattle.cept_profile.proofs.law.protected_cells.protection.Goals as goal

pub returns : goal.returns
returns c = assumption (cell_after-written, cell_after-elsewhere, cell_after-erased, cell_after-not_erased, cell_after-protected, cells_after_all-protected, cell_after-up, cell_after-up_last, cell_after-down, cell_after-down_first, cell_after-wiped, cells_after_all-wiped)
