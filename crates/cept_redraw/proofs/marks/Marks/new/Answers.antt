use Rattle.std.proofs.Common.{refl}
use Rattle.cept_redraw.specs.Marks.{no_marks}
use Rattle.cept_redraw.proofs.MarkedWithin.{AreWithin-none}
use Rattle.cept_redraw.proofs.marks.Marks.new.Goals as goal

pub returns : goal.returns
unfolding no_marks
returns c = refl

pub invariant_of-result : goal.invariant_of-result
unfolding no_marks
invariant_of-result c = AreWithin-none
