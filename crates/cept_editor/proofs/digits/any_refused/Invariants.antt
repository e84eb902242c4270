-- none of the items so far is refused
use Rattle.std.proofs.Common.{◌≡◌, length}
use Rattle.std.specs.List.{list_any}
use Rattle.cept_parser.specs.Items.{is_refusal}
use Rattle.cept_editor.proofs.digits.any_refused.Given as goal

abbrev pub invariant-loop-left : goal.invariant-loop-left
invariant-loop-left l = list_any (λ i. is_refusal i.what) l.fn.items ≡ list_any (λ i. is_refusal i.what) l.left

abbrev pub decreases-loop-left : goal.decreases-loop-left
decreases-loop-left l = length l.left
