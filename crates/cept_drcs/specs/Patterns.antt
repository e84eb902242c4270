-- The patterns of the codes 2/1 to 7/14 of set D, of which each may have none (this profile's own).
use Rattle.std.specs.Prelude.{ℕ, ◌≡◌, ◌≤◌, List, length, Option, IfSome}
use Rattle.cept_codes.specs.declared.look.Pattern.{Pattern}
use Rattle.cept_codes.specs.Look.{IsValidPattern}
pub use Rattle.cept_codes.specs.PatternTable.{list_of_codes, pattern_in}

-- a code that may have a pattern
abbrev pub IsPatternCode : ℕ → Type 0
IsPatternCode c = (0x21 ≤ c) × (c ≤ 0x7E)

-- 94 codes, and each pattern is valid
pub record HasValidPatterns (patterns : List (Option Pattern)) : Type 0 where
  pub codes : length patterns ≡ 94
  pub valid : (code : ℕ) → IfSome (pattern_in patterns code) IsValidPattern
