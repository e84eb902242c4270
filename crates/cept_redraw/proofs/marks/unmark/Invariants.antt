use Rattle.std.proofs.Common.{◌≡◌, ℕ, ◌<◌, false}
use Rattle.cept_redraw.specs.Marks.{is_marked}
use Rattle.cept_redraw.proofs.marks.unmark.Given as goal

abbrev pub invariant-loop-flag : goal.invariant-loop-flag
invariant-loop-flag l = (n : ℕ) → n < l.flag-index → is_marked l.flags n ≡ false
