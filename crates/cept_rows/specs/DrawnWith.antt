-- What signs are drawn with (own), as the crates below keep it.
use Rattle.std.specs.Prelude.{List, Option}
use Rattle.cept_codes.specs.declared.look.Pattern.{Pattern}
use Rattle.cept_colours.specs.Colours.{ColourTables}
use Rattle.cept_profile.specs.Definitions.{Definitions}

-- the paints of the colour entries, the colour entries that the DCLUT names, and the downloaded patterns
abbrev pub drawn_with : ColourTables → List (Option Pattern) → Definitions
drawn_with colours patterns = record { paints = colours.paints; dclut = colours.dclut; patterns = patterns }
