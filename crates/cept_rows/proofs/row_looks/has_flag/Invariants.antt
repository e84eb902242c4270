use Rattle.std.proofs.Common.{◌≡◌, ℕ, ◌+◌, ◌≤◌, ◌<◌, false, get_or}
use Rattle.cept_rows.proofs.row_looks.has_flag.Given as goal

abbrev pub invariant-loop-i : goal.invariant-loop-i
invariant-loop-i l = l.found ≡ false → (k : ℕ) → l.first ≤ k → k < l.first + l.i → get_or l.flags k false ≡ false
