use Rattle.std.proofs.Common.{◌≡◌, ◌+◌, length}
use Rattle.cept_undo.proofs.rings.give_back.Given as goal

abbrev pub invariant-loop-left : goal.invariant-loop-left
invariant-loop-left l =
    (length l.undone.items + l._left ≡ length l.fn.undone.items)
    × (length l.spare.items ≡ l._left + length l.fn.spare.items)
    × (l.undone.capacity ≡ l.fn.undone.capacity)
    × (l.spare.capacity ≡ l.fn.spare.capacity)
