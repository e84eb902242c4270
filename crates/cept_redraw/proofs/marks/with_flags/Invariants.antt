use Rattle.std.proofs.Common.{◌≡◌, ℕ, ◌+◌, ◌<◌, ◌||◌, length}
use Rattle.cept_redraw.specs.Marks.{is_marked}
use Rattle.cept_redraw.proofs.marks.with_flags.Given as goal

abbrev pub invariant-loop-i : goal.invariant-loop-i
invariant-loop-i l = record {
  columns : length l.row ≡ 40;
  flags : (k : ℕ) → k < l.i → is_marked l.row k ≡ (is_marked l.marks (l.first + k) || is_marked l.flags k);
}
