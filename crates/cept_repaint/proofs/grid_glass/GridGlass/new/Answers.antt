use Rattle.std.proofs.Common.{List, sym, subst}
use Rattle.cept_codes.specs.declared.look.Look.{Look}
use Rattle.cept_profile.specs.Valid.{IsValidGrid}
use Rattle.cept_repaint.proofs.ValidGrids.{IsValidGrid-blank}
use Rattle.cept_repaint.proofs.grid_glass.GridGlass.new.Goals as goal

pub invariant_of-result : goal.invariant_of-result
invariant_of-result c = record {
  valid = subst (λ (g : List (List Look)). IsValidGrid g)
      (sym c.in_ok-rows.ensures) IsValidGrid-blank;
}
