use Rattle.std.proofs.Common.{rules, ◌==◌, arith}
use Rattle.cept_words.proofs.FirstParts.{part_in, part_alone}
use Rattle.cept_words.proofs.cutting.cut.Goals as goal

pub returns-then-bytes-index-clause-parts : goal.returns-then-bytes-index-clause-parts
returns-then-bytes-index-clause-parts c =
    part_in c.args.mark c.loop-index.index c.args.bytes.now c.loop-index-test.true c.loop-index.invariant
    (search rules)

pub returns-clause-parts : goal.returns-clause-parts
returns-clause-parts c =
    part_alone (λ a. a == c.args.mark) c.args.bytes.now (λ k m. c.loop-index.invariant k (omega arith))
