use Rattle.cept_delta.proofs.ExchangedValues.{IsRowExchanged}
use Rattle.cept_delta.proofs.exchanging.exchange_row.Given as goal

abbrev pub invariant-loop-number : goal.invariant-loop-number
invariant-loop-number l = IsRowExchanged l.row l.fn.noted l.fn.grid l.number l.noted l.grid
