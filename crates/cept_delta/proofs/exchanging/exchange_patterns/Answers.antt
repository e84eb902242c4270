use Rattle.std.proofs.Common.{◌+◌, ◌-◌, None, refl, arith}
use Rattle.cept_delta.proofs.ExchangedValues.{AreExchanged-more, AreExchanged-none, entry_read, noted-all, values-all}
use Rattle.cept_delta.proofs.ExchangedValues.{noted-none}
use Rattle.cept_profile.specs.PageParts.{pattern_in}
use Rattle.cept_delta.proofs.PutBack.{entries_back-empty}
use Rattle.cept_delta.proofs.exchanging.exchange_patterns.Goals as goal

pub returns-then-not-patterned-clause-noted : goal.returns-then-not-patterned-clause-noted
returns-then-not-patterned-clause-noted c =
    noted-none 0x21 94 (pattern_in c.args.patterns.now) c.args.noted.now c.requires.places
    (c.requires.none c.if-not-patterned.true)

pub returns-then-not-patterned-clause-patterns : goal.returns-then-not-patterned-clause-patterns
returns-then-not-patterned-clause-patterns c =
    entries_back-empty None 0x21 94 c.args.noted.now c.args.patterns.now c.valid_by_type.ensures.codes
    (c.requires.none c.if-not-patterned.true)

pub loop-code-init : goal.loop-code-init
loop-code-init c =
    AreExchanged-none None 0x21 94 (0x21 - 0x21) c.args.noted.now c.args.patterns.now c.requires.places c.valid_by_type.ensures.codes refl

pub loop-code-preserved : goal.loop-code-preserved
loop-code-preserved c =
    AreExchanged-more None 0x21 94 (c.loop-code.code - 0x21) (c.loop-code.code + 1 - 0x21) (c.from.result - 0x21)
    c.loop-code.code c.args.noted.now c.loop-code.noted c.args.patterns.now c.loop-code.patterns c.set.new.self _
    c.exchange_value-pattern.new.noted c.exchange_value-pattern.result c.get.result c.loop-code.invariant (omega arith)
    (omega arith) (omega arith) (omega arith)
    (entry_read 0x21 (c.from.result - 0x21) c.loop-code.code c.loop-code.noted None None
    (omega (arith, c.loop-code.invariant.noted.long)) (omega arith))
    c.get.ensures.pattern c.exchange_value-pattern.ensures.noted c.exchange_value-pattern.ensures.value c.set.ensures

pub returns-clause-noted : goal.returns-clause-noted
returns-clause-noted c =
    noted-all None 0x21 94 (c.loop-code.code - 0x21) c.args.noted.now c.loop-code.noted c.args.patterns.now
    c.loop-code.patterns c.loop-code.invariant (omega arith)

pub returns-clause-patterns : goal.returns-clause-patterns
returns-clause-patterns c =
    values-all None 0x21 94 (c.loop-code.code - 0x21) c.args.noted.now c.loop-code.noted c.args.patterns.now
    c.loop-code.patterns c.loop-code.invariant (omega arith)
