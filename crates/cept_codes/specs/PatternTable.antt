-- The patterns of the codes 2/1 to 7/14 of the downloaded set, of which each may have none (own).
use Rattle.std.specs.Prelude.{ℕ, Option, None, List}
use Rattle.cept_codes.specs.declared.look.Pattern.{Pattern}
use Rattle.cept_codes.specs.Table.{entry, list_by_index}

-- a list with an entry for each of the 94 codes, by the code
abbrev pub list_of_codes : {X : Type 0} → (ℕ → X) → List X
list_of_codes f = list_by_index 0x21 94 f

-- the pattern of a code; none where it has none, and none below 2/1 or past 7/14
abbrev pub pattern_in : List (Option Pattern) → ℕ → Option Pattern
pattern_in patterns d = entry None 0x21 patterns d
