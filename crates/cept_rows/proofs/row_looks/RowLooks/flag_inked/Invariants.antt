use Rattle.std.proofs.Common.{◌||◌, false}
use Rattle.cept_codes.specs.Look.{blank_look}
use Rattle.cept_codes.specs.Table.{HasMadeEntries, entry}
use Rattle.cept_profile.specs.Names.{pattern_shown}
use Rattle.cept_profile.specs.Tiling.{column_entry}
use Rattle.cept_rows.specs.Planes.{has_inks}
use Rattle.cept_rows.proofs.row_looks.RowLooks.flag_inked.Given as goal

abbrev pub invariant-loop-k : goal.invariant-loop-k
invariant-loop-k l =
    HasMadeEntries false 1 40
    (λ c. entry false 1 l.initial.flags c || has_inks (pattern_shown (column_entry blank_look l.self c).shape))
    (entry false 1 l.initial.flags) l.flags l.k
