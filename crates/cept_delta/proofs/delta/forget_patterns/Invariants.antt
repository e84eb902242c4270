use Rattle.std.proofs.Common.{None}
use Rattle.cept_codes.specs.Table.{HasMadeEntries, entry}
use Rattle.cept_delta.proofs.delta.forget_patterns.Given as goal

abbrev pub invariant-loop-pattern : goal.invariant-loop-pattern
invariant-loop-pattern l =
    HasMadeEntries None 0x21 94 (λ _. None) (entry None 0x21 l.fn.patterns) l.patterns l.pattern-index
