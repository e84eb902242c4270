-- What private clauses say beside `Parts` (this project's own).
use Rattle.std.specs.Prelude.{ℕ, ◌==◌, if◌then◌else◌}
use Rattle.cept_parser.specs.declared.context.ColourKind.{ColourKind}
use Rattle.cept_parser.specs.declared.context.ColourKind.TheVariants as kinds
use Rattle.cept_parser.specs.declared.context.Mode.{Mode}
use Rattle.cept_parser.specs.declared.context.Mode.TheVariants as modes

abbrev pub mode_by : ℕ → ℕ → Mode
mode_by number place =
    if number == 1 then modes.TableRun place else if number == 2 then modes.DclutRun place
    else if number == 3 then modes.DrcsRun place else if number == 4 then modes.Skip else modes.Text

abbrev pub kind_by : ℕ → ColourKind
kind_by number = if number == 1 then kinds.LookUpTable else kinds.ColourTable
