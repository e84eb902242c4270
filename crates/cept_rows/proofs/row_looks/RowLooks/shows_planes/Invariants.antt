use Rattle.std.proofs.Common.{◌≡◌, ℕ, ◌≤◌, ◌<◌, false}
use Rattle.cept_rows.proofs.RowsSearched.{shows_planes}
use Rattle.cept_rows.proofs.row_looks.RowLooks.shows_planes.Given as goal

abbrev pub invariant-loop-number : goal.invariant-loop-number
invariant-loop-number l = (c : ℕ) → 1 ≤ c → c < l.number → shows_planes l.self l.fn.planes c ≡ false
