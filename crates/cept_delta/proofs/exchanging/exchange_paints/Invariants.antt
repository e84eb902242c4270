use Rattle.std.proofs.Common.{◌≡◌}
use Rattle.cept_codes.specs.Look.{black_paint}
use Rattle.cept_delta.proofs.ExchangedValues.{AreExchanged}
use Rattle.cept_delta.proofs.exchanging.exchange_paints.Given as goal

abbrev pub invariant-loop-i : goal.invariant-loop-i
invariant-loop-i l =
    AreExchanged black_paint 0 32 l.fn.noted l.fn.colours.paints l.i l.noted l.colours.paints
    × (l.colours.dclut ≡ l.fn.colours.dclut)
