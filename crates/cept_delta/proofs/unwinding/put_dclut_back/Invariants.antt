use Rattle.std.proofs.Common.{◌≡◌, nat_lt}
use Rattle.cept_profile.specs.OldValues.{old_dclut}
use Rattle.cept_delta.specs.inside.PutBack.{entries_back}
use Rattle.cept_delta.proofs.unwinding.put_dclut_back.Given as goal

abbrev pub invariant-loop-i : goal.invariant-loop-i
invariant-loop-i l =
    (l.colours.dclut ≡ entries_back 0 0 4 (λ j. nat_lt j l.i) (old_dclut l.delta) l.fn.colours.dclut)
    × (l.colours.paints ≡ l.fn.colours.paints)
