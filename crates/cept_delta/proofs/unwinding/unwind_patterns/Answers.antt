use Rattle.std.proofs.Common.{◌+◌, nat_lt, Option, None, unwrap_or, refl, ap, ◌∙◌, arith}
use Rattle.std.proofs.lemmas.Bool.Decides.{nat_tests}
use Rattle.cept_codes.specs.declared.look.Pattern.{Pattern}
use Rattle.cept_profile.specs.OldValues.{old_pattern}
use Rattle.cept_delta.proofs.PutBack.{entries_back-all, entries_back-empty, entries_back-more, entries_back-none}
use Rattle.cept_delta.proofs.unwinding.unwind_patterns.Goals as goal

pub returns-then-not-has_patterns : goal.returns-then-not-has_patterns
returns-then-not-has_patterns c =
    entries_back-empty None 0x21 94 c.args.delta.now.patterns c.args.patterns.now c.valid_by_type.ensures.codes
    (c.has_patterns.ensures c.if-not-has_patterns.true)

pub loop-code-init : goal.loop-code-init
loop-code-init c =
    entries_back-none None 0x21 94 (λ j. nat_lt j 0x21) (old_pattern c.args.delta.now) c.args.patterns.now
    c.valid_by_type.ensures.codes (λ k low. grind (arith, nat_tests))

pub loop-code-preserved : goal.loop-code-preserved
loop-code-preserved c =
    entries_back-more None 0x21 94 c.loop-code.code (c.loop-code.code + 1) (old_pattern c.args.delta.now)
    c.unwrap_or-pattern.result c.args.patterns.now c.loop-code.patterns c.set.new.self
    c.loop-code.invariant c.set.ensures refl (omega arith) (omega arith)
    (c.unwrap_or-pattern.ensures
    ∙ ap (λ (o : Option (Option Pattern)). unwrap_or o c.get.result) c.old_pattern.ensures
    ∙ ap (λ (p : Option Pattern). unwrap_or (old_pattern c.args.delta.now c.loop-code.code) p) c.get.ensures.pattern)

pub returns : goal.returns
returns c =
    entries_back-all None 0x21 94 c.loop-code.code (old_pattern c.args.delta.now) c.args.patterns.now
    c.loop-code.patterns c.loop-code.invariant (omega arith)
