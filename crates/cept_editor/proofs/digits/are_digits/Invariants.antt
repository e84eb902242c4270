-- the digits so far are pairs
use Rattle.std.proofs.Common.{◌≡◌, length, is_some}
use Rattle.cept_editor.specs.Meaning.{hex_bytes}
use Rattle.cept_editor.proofs.digits.are_digits.Given as goal

abbrev pub invariant-loop-left : goal.invariant-loop-left
invariant-loop-left l = is_some (hex_bytes l.fn.digits) ≡ is_some (hex_bytes l.left)

abbrev pub decreases-loop-left : goal.decreases-loop-left
decreases-loop-left l = length l.left
