use Rattle.std.proofs.Common.{◌≡◌, nat_lt}
use Rattle.cept_codes.specs.Look.{black_paint}
use Rattle.cept_profile.specs.OldValues.{old_paint}
use Rattle.cept_delta.specs.inside.PutBack.{entries_back}
use Rattle.cept_delta.proofs.unwinding.put_paints_back.Given as goal

abbrev pub invariant-loop-i : goal.invariant-loop-i
invariant-loop-i l =
    (l.colours.paints ≡ entries_back black_paint 0 32 (λ j. nat_lt j l.i) (old_paint l.delta) l.fn.colours.paints)
    × (l.colours.dclut ≡ l.fn.colours.dclut)
