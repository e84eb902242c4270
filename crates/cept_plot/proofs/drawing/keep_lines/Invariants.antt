use Rattle.std.proofs.Common.{length}
use Rattle.cept_plot.proofs.KeptLines.{HasRead}
use Rattle.cept_plot.proofs.drawing.keep_lines.Given as goal

-- the lines so far were kept
abbrev pub invariant-loop-left : goal.invariant-loop-left
invariant-loop-left l = HasRead l.fn.bytes l.figures.items l.number l.left

abbrev pub decreases-loop-left : goal.decreases-loop-left
decreases-loop-left l = length l.left
