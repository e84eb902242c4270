use Rattle.std.proofs.Common.{◌+◌, refl, arith}
use Rattle.cept_profile.specs.PageParts.{pattern_in}
use Rattle.cept_delta.proofs.NotedInTurn.{patterns_all, patterns_none, patterns_more}
use Rattle.cept_delta.proofs.delta.Delta.note_patterns.Goals as goal

pub loop-code-init : goal.loop-code-init
loop-code-init c =
    patterns_none c.args.self.now (pattern_in c.args.patterns.now) 0x21 c.places_by_type.ensures.patterns refl

pub loop-code-preserved : goal.loop-code-preserved
loop-code-preserved c =
    patterns_more c.args.self.now c.loop-code.self c.note_pattern.new.self (pattern_in c.args.patterns.now)
    c.loop-code.code (c.loop-code.code + 1) c.loop-code.invariant c.note_pattern.ensures refl

pub returns : goal.returns
returns c =
    patterns_all c.args.self.now c.loop-code.self (pattern_in c.args.patterns.now) c.loop-code.code
    c.loop-code.invariant (omega arith)
