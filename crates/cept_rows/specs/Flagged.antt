-- A row of which some columns get another look (own): all at once, or the flagged ones one after the other.
use Rattle.std.specs.Prelude.{ℕ, Bool, false, not, List, if◌then◌else◌}
use Rattle.cept_codes.specs.declared.look.Look.{Look}
use Rattle.cept_codes.specs.Look.{blank_look}
use Rattle.cept_codes.specs.Same.{same_look}
use Rattle.cept_codes.specs.Table.{entry}
use Rattle.cept_profile.specs.Tiling.{column_entry}

-- the look of a column of a row
abbrev pub look_at : List Look → ℕ → Look
look_at looks c = column_entry blank_look looks c

-- the look of a column: of a flagged one the fresh one, of any other the one before
abbrev pub look_after : List Bool → (ℕ → Look) → List Look → ℕ → Look
look_after flags fresh was c = if entry false 1 flags c then fresh c else look_at was c

-- two rows have different looks in a column
abbrev pub looks_differ : List Look → List Look → ℕ → Bool
looks_differ was now c = not (same_look (look_at was c) (look_at now c))
