-- Parts of the places of a row (own).
use Rattle.std.specs.Prelude.{ℕ, ◌≤◌, List}
use Rattle.cept_codes.specs.declared.look.Part.{Part}
use Rattle.cept_codes.specs.Look.{IsValidPart}
use Rattle.cept_profile.specs.Tiling.{column_entry, single_part}

-- each of forty places shows a part that a sign can have
abbrev pub AreValidParts : List Part → Type 0
AreValidParts parts = (c : ℕ) → 1 ≤ c → c ≤ 40 → IsValidPart (column_entry single_part parts c)
