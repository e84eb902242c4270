-- the bytes so far are signs
use Rattle.std.proofs.Common.{◌≡◌, length}
use Rattle.std.specs.List.{list_all}
use Rattle.cept_parser.specs.Bytes.{is_between}
use Rattle.cept_editor.proofs.order.are_signs.Given as goal

abbrev pub invariant-loop-left : goal.invariant-loop-left
invariant-loop-left l = list_all (is_between 0x20 0x7E) l.fn.text ≡ list_all (is_between 0x20 0x7E) l.left

abbrev pub decreases-loop-left : goal.decreases-loop-left
decreases-loop-left l = length l.left
