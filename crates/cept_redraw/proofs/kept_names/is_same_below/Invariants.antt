use Rattle.std.proofs.Common.{◌≡◌, ℕ, ◌≤◌, ◌<◌, true}
use Rattle.cept_codes.specs.Look.{blank_look}
use Rattle.cept_profile.specs.Look.{part_of}
use Rattle.cept_profile.specs.Tiling.{column_entry, covers_below}
use Rattle.cept_redraw.proofs.kept_names.is_same_below.Given as goal
use Rattle.cept_rows.specs.KeptNames.{names_kept}

abbrev pub invariant-loop-number : goal.invariant-loop-number
invariant-loop-number l =
    (c : ℕ) → 1 ≤ c → c < l.number → covers_below (part_of (column_entry blank_look l.looks c)) ≡ true
    → names_kept l.names c ≡ names_kept l.others c
