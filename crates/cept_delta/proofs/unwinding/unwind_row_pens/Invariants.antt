use Rattle.std.proofs.Common.{◌≡◌, nat_lt}
use Rattle.cept_codes.specs.Attribute.{unset_pen}
use Rattle.cept_profile.specs.OldValues.{old_row_pen}
use Rattle.cept_delta.specs.inside.PutBack.{entries_back}
use Rattle.cept_delta.proofs.unwinding.unwind_row_pens.Given as goal

abbrev pub invariant-loop-number : goal.invariant-loop-number
invariant-loop-number l =
    l.pens ≡ entries_back unset_pen 1 24 (λ r. nat_lt r l.number) (old_row_pen l.delta) l.fn.pens
