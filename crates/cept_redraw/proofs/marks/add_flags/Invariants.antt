use Rattle.cept_redraw.proofs.MarkedWithin.{HasFlagsBelow}
use Rattle.cept_redraw.proofs.marks.add_flags.Given as goal

abbrev pub invariant-loop-i : goal.invariant-loop-i
invariant-loop-i l = HasFlagsBelow l.flags l.fn.first l.fn.marks l.marks l.i
