-- the bytes so far were read
use Rattle.std.proofs.Common.{◌≡◌, ◌≤◌, ◌+◌, length, false, IsSome, List, ℕ}
use Rattle.cept_editor.specs.Meaning.{hex_bytes}
use Rattle.cept_editor.specs.Order.{raw_bytes}
use Rattle.cept_editor.proofs.BytesSaid.{HasGone}
use Rattle.cept_editor.proofs.digits.has_refusal.Given as goal

abbrev pub invariant-loop-left : goal.invariant-loop-left
invariant-loop-left l = record {
  few : l.parser.place + length l.left ≤ length l.fn.digits;
  running : l.parser.finished ≡ false;
  readable : IsSome (hex_bytes l.left);
  gone : (done : List ℕ) × HasGone (raw_bytes l.fn.digits) done (raw_bytes l.left) l.parser l.refused;
}

abbrev pub decreases-loop-left : goal.decreases-loop-left
decreases-loop-left l = length l.left
