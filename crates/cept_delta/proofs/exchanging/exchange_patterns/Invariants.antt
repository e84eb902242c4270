use Rattle.std.proofs.Common.{◌-◌, None}
use Rattle.cept_delta.proofs.ExchangedValues.{AreExchanged}
use Rattle.cept_delta.proofs.exchanging.exchange_patterns.Given as goal

abbrev pub invariant-loop-code : goal.invariant-loop-code
invariant-loop-code l =
    AreExchanged None 0x21 94 l.fn.noted l.fn.patterns (l.code - 0x21) l.noted l.patterns
