-- What private clauses say beside `RowsByCell` (this project's own).
use Rattle.std.specs.Prelude.{if◌then◌else◌, Bool, true, false, List, Option, None}
use Rattle.cept_codes.specs.declared.cell.What.{What}
use Rattle.cept_codes.specs.declared.cell.What.TheVariants as whats
use Rattle.cept_codes.specs.declared.glyph.Glyph.{Glyph}
use Rattle.cept_codes.specs.declared.glyph.SetId.{SetId}
use Rattle.cept_codes.specs.declared.glyph.SetId.TheVariants as sets
use Rattle.cept_codes.specs.declared.look.Pattern.{Pattern}
use Rattle.cept_profile.specs.PageParts.{pattern_in}

-- the downloaded set
abbrev pub is_set_d : SetId → Bool
is_set_d sets.D = true
is_set_d _ = false

-- a sign of it stands in a cell
abbrev pub is_downloaded : What → Bool
is_downloaded (whats.Serial g) = is_set_d g.set
is_downloaded (whats.Parallel g pen) = is_set_d g.set
is_downloaded _ = false

-- the pattern of a sign, where it is of that set and its code has one
abbrev pub pattern_of_sign : List (Option Pattern) → Glyph → Option Pattern
pattern_of_sign patterns g = if is_set_d g.set then pattern_in patterns g.code else None
