use Rattle.std.proofs.Common.{◌≡◌, ◌==◌, ◌&&◌, None, nat_lt}
use Rattle.cept_codes.specs.Table.{entry}
use Rattle.cept_delta.specs.inside.PutBack.{cells_back}
use Rattle.cept_delta.proofs.unwinding.unwind_row.Given as goal

abbrev pub invariant-loop-number : goal.invariant-loop-number
invariant-loop-number l =
    l.grid ≡ cells_back (λ r c. l.row == r && nat_lt c l.number) (λ _ c. entry None 1 l.old c) l.fn.grid
