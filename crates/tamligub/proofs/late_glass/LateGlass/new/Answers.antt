use Rattle.tamligub.proofs.BlankGrids.{valid_blank_grid}
use Rattle.tamligub.proofs.late_glass.LateGlass.new.Goals as goal

pub invariant_of-result : goal.invariant_of-result
invariant_of-result c = record { valid = valid_blank_grid }
