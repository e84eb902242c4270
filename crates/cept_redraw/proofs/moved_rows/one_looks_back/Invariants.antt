use Rattle.std.proofs.Common.{◌≡◌, ℕ, ◌≤◌, ◌<◌, false}
use Rattle.cept_redraw.specs.inside.Due.{row_from}
use Rattle.cept_redraw.specs.inside.Passed.{came_above, looks_back}
use Rattle.cept_redraw.proofs.moved_rows.one_looks_back.Given as goal

abbrev pub invariant-loop-row : goal.invariant-loop-row
invariant-loop-row l =
    (l.above ≡ came_above l.rows l.row)
    × ((r : ℕ) → 1 ≤ r → r < l.row → looks_back (row_from l.rows r) r (came_above l.rows r) ≡ false)
