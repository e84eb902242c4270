use Rattle.std.proofs.Common.{◌≡◌, ℕ, ◌≤◌, false}
use Rattle.cept_profile.specs.Serial.{is_marker, row_in}
use Rattle.cept_attrs.proofs.serial.has_marker.Given as goal

-- no marker stands in the cells that were looked at
abbrev pub invariant-loop-cell : goal.invariant-loop-cell
invariant-loop-cell l = (c : ℕ) → 1 ≤ c → c ≤ l.cell-index → is_marker (row_in l.cells c) ≡ false
