use Rattle.std.proofs.Common.{◌≡◌, ℕ, ◌-◌, ◌≤◌, ◌<◌}
use Rattle.cept_profile.specs.NamesFromAbove.{names_in_row}
use Rattle.cept_profile.specs.Serial.{row_in}
use Rattle.cept_rows.specs.KeptNames.{names_kept, names_made}
use Rattle.cept_rows.specs.inside.KeptNames.{names_of_place}
use Rattle.cept_rows.proofs.naming.name_places.Given as goal

abbrev pub invariant-loop-number : goal.invariant-loop-number
invariant-loop-number l = record {
  made : (c : ℕ) → 1 ≤ c → c < l.number
      → names_kept l.names c ≡ names_made l.above l.looks (names_in_row (row_in l.cells) l.row l.screen) c;
  left : names_of_place l.left
      ≡ names_made l.above l.looks (names_in_row (row_in l.cells) l.row l.screen) (l.number - 1);
}
