use Rattle.std.proofs.Common.{◌≡◌, ℕ, ◌≤◌, ◌<◌, true, false, length}
use Rattle.cept_codes.specs.Table.{entry}
use Rattle.cept_redraw.specs.inside.Named.{IsStill}
use Rattle.cept_redraw.proofs.kept_names.KeptNames.forget_rows.Given as goal

abbrev pub invariant-loop-number : goal.invariant-loop-number
invariant-loop-number l = record {
  above : l.self-inside.above ≡ l.fn.self.above;
  rows : l.self-inside.rows ≡ l.fn.self.rows;
  flags : length l.self-inside.known ≡ 24;
  known : (r : ℕ) → 1 ≤ r → r ≤ 24 → entry false 1 l.self-inside.known r ≡ true
      → (entry false 1 l.fn.self.known r ≡ true) × (r < l.number → IsStill l.flags l.rows l.marks r);
  kept : (r : ℕ) → 1 ≤ r → r ≤ 24 → entry false 1 l.fn.self.known r ≡ true → IsStill l.flags l.rows l.marks r
      → entry false 1 l.self-inside.known r ≡ true;
}
