use Rattle.std.proofs.Common.{◌≡◌, ◌≤◌, ◌<◌, ℕ, false}
use Rattle.cept_profile.specs.Serial.{is_marker, row_in}
use Rattle.cept_page.proofs.row_flags.has_marker_from.Given as goal

abbrev pub invariant-loop-c : goal.invariant-loop-c
invariant-loop-c l = (d : ℕ) → l.fn.column ≤ d → d < l.c → is_marker (row_in l.cells d) ≡ false
