use Rattle.std.proofs.Common.{◌+◌, ◌||◌, false, get_or, refl, sym, ap, ◌∙◌, arith}
use Rattle.cept_redraw.proofs.MarkedWithin.{HasFlagsBelow-all, HasFlagsBelow-more, HasFlagsBelow-none}
use Rattle.cept_redraw.proofs.marks.add_flags.Goals as goal

pub loop-i-init : goal.loop-i-init
loop-i-init c = HasFlagsBelow-none c.args.flags.now c.args.first c.args.marks.now c.requires.places

pub loop-i-preserved : goal.loop-i-preserved
loop-i-preserved c =
    HasFlagsBelow-more c.loop-i.invariant c.requires.within c.loop-i-test.true (c.args.first + c.loop-i.i) refl
    (get_or c.with_flags-row.result c.loop-i.i false)
    (c.with_flags-row.ensures.flags c.loop-i.i c.loop-i-test.true
    ∙ ap (λ b. b || get_or c.args.flags.now c.loop-i.i false)
    (sym (c.loop-i.invariant.below (c.args.first + c.loop-i.i) (omega arith))))

pub returns : goal.returns
returns c = HasFlagsBelow-all c.loop-i.invariant (omega arith)
