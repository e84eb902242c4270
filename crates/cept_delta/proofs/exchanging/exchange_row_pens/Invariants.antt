use Rattle.cept_codes.specs.Attribute.{unset_pen}
use Rattle.cept_delta.proofs.ExchangedValues.{AreExchanged}
use Rattle.cept_delta.proofs.exchanging.exchange_row_pens.Given as goal

abbrev pub invariant-loop-i : goal.invariant-loop-i
invariant-loop-i l = AreExchanged unset_pen 1 24 l.fn.noted l.fn.pens l.i l.noted l.pens
