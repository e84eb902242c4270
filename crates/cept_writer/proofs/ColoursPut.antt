-- Colour entries and the DCLUT in a written page.
use Rattle.std.proofs.Common.{◌≡◌, ℕ, ◌<◌, false, List, [], ◌∷◌, refl, arith}
use Rattle.cept_codes.specs.declared.command.Command.{Command}
use Rattle.cept_codes.specs.declared.command.Command.TheVariants as commands
use Rattle.cept_codes.specs.Look.{black_paint}
use Rattle.cept_codes.proofs.Laws.{entry-list_by_index}
use Rattle.cept_colours.specs.Colours.{default_colours}
use Rattle.cept_profile.specs.Colours.{default_paint}
use Rattle.cept_profile.specs.PageParts.{paint_in}
use Rattle.cept_writer.specs.Codes.{after_header}
use Rattle.cept_writer.specs.PageCommands.{at_row, with_colour_header}

-- the defaults are the default paints
pub default_is : (i : ℕ) → i < 32 → paint_in default_colours.paints i ≡ default_paint i
default_is i below = entry-list_by_index black_paint 0 32 default_paint i (omega arith) (omega (arith, below))

pub colours_headed : (cs : List Command) → after_header (commands.ColourHeader false ∷ cs) ≡ with_colour_header cs
colours_headed [] = refl
colours_headed (c ∷ cs) = refl

pub row_headed : (r : ℕ) (cs : List Command) → after_header (commands.Position r 1 ∷ cs) ≡ at_row r cs
row_headed r [] = refl
row_headed r (c ∷ cs) = refl
