use Rattle.std.proofs.Common.{sym, arith}
use Rattle.cept_drcs.proofs.StripWords.{number_none, ten_small, nine_small, ten_more}
use Rattle.cept_drcs.proofs.words.ten.Goals as goal

pub loop-k-init : goal.loop-k-init
loop-k-init c = sym (number_none _ c.args.strips.now)

pub overflow_mul-number : goal.overflow_mul-number
overflow_mul-number c =
    omega (arith, nine_small c.loop-k.k _ _ c.args.strips.now c.loop-k.invariant c.loop-k-test.true)

pub overflow_add-number : goal.overflow_add-number
overflow_add-number c =
    omega (arith, nine_small c.loop-k.k _ _ c.args.strips.now c.loop-k.invariant c.loop-k-test.true)

pub loop-k-preserved : goal.loop-k-preserved
loop-k-preserved c =
    ten_more c.loop-k.number c.strip.result c.loop-k.k c.args.from c.args.strips.now c.loop-k-test.true
    c.loop-k.invariant c.strip.ensures.pixels

pub returns-clause-range : goal.returns-clause-range
returns-clause-range c =
    ten_small c.loop-k.k _ _ c.args.strips.now c.loop-k.invariant (omega arith)
