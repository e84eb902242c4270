use Rattle.std.proofs.Common.{sym, ◌∙◌, arith, None}
use Rattle.cept_codes.proofs.Laws.{indexed_none}
use Rattle.cept_drcs.proofs.PatternLists.{none_more, all_none}
use Rattle.cept_drcs.proofs.patterns.Patterns.new.Goals as goal

pub loop-code-init : goal.loop-code-init
loop-code-init c = c.in_ok-patterns.ensures.items ∙ sym (indexed_none 0x21 (λ _. None))

pub loop-code-preserved : goal.loop-code-preserved
loop-code-preserved c =
    none_more c.loop-code.patterns.items _ c.loop-code._code _ c.in_ok-push.ensures.items c.loop-code.invariant
    (omega arith)

pub invariant_of-result : goal.invariant_of-result
invariant_of-result c = all_none c.loop-code.patterns.items c.loop-code._code c.loop-code.invariant (omega arith)
