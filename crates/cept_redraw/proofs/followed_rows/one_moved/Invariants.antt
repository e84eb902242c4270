use Rattle.std.proofs.Common.{◌≡◌, ◌≤◌, ◌<◌, ◌+◌, ℕ, Some}
use Rattle.cept_redraw.specs.inside.Due.{row_from}
use Rattle.cept_redraw.proofs.followed_rows.one_moved.Given as goal

abbrev pub invariant-loop-i : goal.invariant-loop-i
invariant-loop-i l = (r q : ℕ) → 1 ≤ r → r < 1 + l.i → row_from l.rows r ≡ Some q → q ≡ r
