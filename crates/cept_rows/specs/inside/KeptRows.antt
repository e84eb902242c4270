-- What private clauses say beside `KeptRows` (this project's own).
use Rattle.std.specs.Prelude.{ℕ, ◌≡◌, false, List}
use Rattle.cept_codes.specs.declared.look.Look.{Look}
use Rattle.cept_codes.specs.Look.{blank_look}
use Rattle.cept_profile.specs.Tiling.{column_entry}
use Rattle.cept_rows.specs.SmallLooks.{has_pattern, small_of}

-- no look of a row is a pattern
abbrev pub HasNoPatterns : List Look → Type 0
HasNoPatterns looks = (c : ℕ) → has_pattern (small_of (column_entry blank_look looks c)) ≡ false
