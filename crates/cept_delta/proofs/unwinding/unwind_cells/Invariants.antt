use Rattle.std.proofs.Common.{◌≡◌, nat_lt}
use Rattle.cept_profile.specs.OldValues.{old_cell}
use Rattle.cept_delta.specs.inside.PutBack.{cells_back}
use Rattle.cept_delta.proofs.unwinding.unwind_cells.Given as goal

abbrev pub invariant-loop-number : goal.invariant-loop-number
invariant-loop-number l =
    l.grid ≡ cells_back (λ r _. nat_lt r l.number) (old_cell l.delta) l.fn.grid
