use Rattle.cept_live.proofs.PagesRead.{AreMarked}
use Rattle.cept_live.proofs.parts.marks_of.Given as goal

abbrev pub invariant-loop-n : goal.invariant-loop-n
invariant-loop-n l = AreMarked l.bits l.n l.marks
