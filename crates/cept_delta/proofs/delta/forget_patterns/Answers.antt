use Rattle.std.proofs.Common.{None, arith}
use Rattle.cept_codes.proofs.Laws.{HasMadeEntries-all}
use Rattle.cept_delta.proofs.delta.forget_patterns.Goals as goal

pub returns : goal.returns
returns c =
    HasMadeEntries-all None 0x21 94 _ _ c.loop-pattern.patterns c.loop-pattern.pattern-index c.loop-pattern.invariant
    (omega arith)
