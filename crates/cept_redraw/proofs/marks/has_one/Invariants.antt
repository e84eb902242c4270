use Rattle.std.proofs.Common.{◌≡◌, ℕ, ◌<◌, ◌≤◌, false, get_or}
use Rattle.cept_codes.specs.Table.{entry}
use Rattle.cept_redraw.proofs.marks.has_one.Given as goal

abbrev pub invariant-loop-i : goal.invariant-loop-i
invariant-loop-i l = record {
  none : l.one ≡ false → (k : ℕ) → k < l.i → get_or l.flags k false ≡ false;
  one : ((c : ℕ) → 1 ≤ c → c ≤ 40 → entry false 1 l.flags c ≡ false) → l.one ≡ false;
}
