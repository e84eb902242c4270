use Rattle.cept_delta.proofs.ExchangedValues.{AreRowsExchanged}
use Rattle.cept_delta.proofs.exchanging.exchange_cells.Given as goal

abbrev pub invariant-loop-number : goal.invariant-loop-number
invariant-loop-number l = AreRowsExchanged l.fn.noted l.fn.grid l.number l.noted l.grid
