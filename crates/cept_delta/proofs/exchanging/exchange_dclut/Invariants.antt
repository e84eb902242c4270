use Rattle.std.proofs.Common.{◌≡◌}
use Rattle.cept_delta.proofs.ExchangedValues.{AreExchanged}
use Rattle.cept_delta.proofs.exchanging.exchange_dclut.Given as goal

abbrev pub invariant-loop-i : goal.invariant-loop-i
invariant-loop-i l =
    AreExchanged 0 0 4 l.fn.noted l.fn.colours.dclut l.i l.noted l.colours.dclut
    × (l.colours.paints ≡ l.fn.colours.paints)
