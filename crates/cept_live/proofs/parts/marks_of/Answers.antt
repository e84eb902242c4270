use Rattle.std.proofs.Common.{subst, sym}
use Rattle.cept_live.proofs.PagesRead.{AreMarked, marks_all, marks_back, marks_none}
use Rattle.cept_live.proofs.parts.marks_of.Goals as goal

pub loop-n-init : goal.loop-n-init
loop-n-init c = subst (AreMarked c.args.bits.now 0) (sym c.new-marks.ensures) (marks_none c.args.bits.now)

pub returns : goal.returns
returns c = λ flags is places.
    marks_back flags c.args.bits.now c.loop-n.marks is places
    (marks_all c.args.bits.now c.loop-n.n c.loop-n.marks c.loop-n-test.false c.loop-n.auto.n-end c.loop-n.invariant)
