use Rattle.std.proofs.Common.{◌≡◌, ℕ, ◌≤◌, ◌<◌, false}
use Rattle.cept_redraw.specs.Marks.{is_marked}
use Rattle.cept_redraw.proofs.marks.first_marked.Given as goal

abbrev pub invariant-loop-n : goal.invariant-loop-n
invariant-loop-n l = (k : ℕ) → l.first ≤ k → l.from ≤ k → k < l.n → is_marked l.flags k ≡ false
