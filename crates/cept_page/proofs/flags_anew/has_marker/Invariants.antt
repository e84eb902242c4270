use Rattle.std.proofs.Common.{◌≡◌, ◌≤◌, ℕ, false}
use Rattle.cept_codes.specs.Cell.{blank_cell}
use Rattle.cept_codes.specs.Table.{entry}
use Rattle.cept_profile.specs.Serial.{is_marker}
use Rattle.cept_page.proofs.flags_anew.has_marker.Given as goal

abbrev pub invariant-loop-i : goal.invariant-loop-i
invariant-loop-i l = (c : ℕ) → 1 ≤ c → c ≤ l.i → is_marker (entry blank_cell 1 l.cells c).what ≡ false
