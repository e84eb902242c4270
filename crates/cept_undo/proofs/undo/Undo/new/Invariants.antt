use Rattle.std.proofs.Common.{◌≡◌, ◌+◌, length}
use Rattle.cept_undo.specs.Past.{most_kept}
use Rattle.cept_undo.proofs.undo.Undo.new.Given as goal

abbrev pub invariant-loop-place : goal.invariant-loop-place
invariant-loop-place l = (length l.spare.items ≡ l._place) × (l.spare.capacity ≡ most_kept + 1)
