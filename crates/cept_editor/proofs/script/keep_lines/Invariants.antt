-- the lines so far were kept
use Rattle.std.proofs.Common.{length}
use Rattle.cept_editor.proofs.KeptLines.{HasRead}
use Rattle.cept_editor.proofs.script.keep_lines.Given as goal

abbrev pub invariant-loop-left : goal.invariant-loop-left
invariant-loop-left l = HasRead l.fn.bytes l.orders.items l.number l.left

abbrev pub decreases-loop-left : goal.decreases-loop-left
decreases-loop-left l = length l.left
