-- The commands that write a cell (own): its position, protection where it has it, its C1 set, and its sign with its
-- pen or its marker. Signs of set P are written as they are, mosaics of M between two locking shifts, signs of S and N
-- after a single shift, and downloaded ones while their set stands in the place of P. So all sets are as at the start
-- before and after each cell.
use Rattle.std.specs.Prelude.{ℕ, Bool, true, false, List, [], ◌∷◌, ◌++◌, ◌==◌, if◌then◌else◌}
use Rattle.cept_codes.specs.declared.cell.Marker.{Marker}
use Rattle.cept_codes.specs.declared.cell.Marker.TheVariants as markers
use Rattle.cept_codes.specs.declared.cell.What.{What}
use Rattle.cept_codes.specs.declared.cell.What.TheVariants as whats
use Rattle.cept_codes.specs.declared.command.C1Set.TheVariants as c1sets
use Rattle.cept_codes.specs.declared.command.Command.{Command}
use Rattle.cept_codes.specs.declared.command.Command.TheVariants as commands
use Rattle.cept_codes.specs.declared.glyph.Glyph.{Glyph}
use Rattle.cept_codes.specs.declared.glyph.SetId.{SetId}
use Rattle.cept_codes.specs.declared.glyph.SetId.TheVariants as sets
use Rattle.cept_codes.specs.Place.{Place}
use Rattle.cept_writer.specs.AttributeCommands.{colour_commands, flash_commands, pen_commands}
use Rattle.cept_writer.specs.AttributeCommands.{size_code}

-- an accent of set S, before its sign
abbrev pub accent_commands : ℕ → List Command
accent_commands accent = if accent == 0 then [] else commands.Single 2 ∷ commands.Graphic accent ∷ []

-- a sign of a set, by its code and its accent, which only set P has
abbrev pub sign_commands : SetId → ℕ → ℕ → List Command
sign_commands sets.P code accent = accent_commands accent ++ commands.Graphic code ∷ []
sign_commands sets.S code accent = commands.Single 2 ∷ commands.Graphic code ∷ []
sign_commands sets.M code accent = commands.LockLeft 1 ∷ commands.Graphic code ∷ commands.LockLeft 0 ∷ []
sign_commands sets.N code accent = commands.Single 3 ∷ commands.Graphic code ∷ []
sign_commands sets.D code accent =
    commands.Designate 0 sets.D ∷ commands.Graphic code ∷ commands.Designate 0 sets.P ∷ []

-- the same of a glyph
abbrev pub glyph_commands : Glyph → List Command
glyph_commands g = sign_commands g.set g.code g.accent

-- what leaves a marker under the serial set
abbrev pub marker_commands : Marker → List Command
marker_commands (markers.Alpha e) = colour_commands (λ n. commands.C1 n) 0 e
marker_commands (markers.Mosaic e) = colour_commands (λ n. commands.C1 n) 16 e
marker_commands markers.BlackBack = commands.C1 28 ∷ []
marker_commands markers.NewBack = commands.C1 29 ∷ []
marker_commands markers.Hold = commands.C1 30 ∷ []
marker_commands markers.Release = commands.C1 31 ∷ []
marker_commands (markers.Flash f) = flash_commands (λ n. commands.C1 n) f
marker_commands (markers.Conceal true) = commands.C1 24 ∷ []
marker_commands (markers.Conceal false) = commands.StopConceal ∷ []
marker_commands (markers.Lined on) = commands.C1 (if on then 26 else 25) ∷ []
marker_commands (markers.Boxed on) = commands.C1 (if on then 11 else 10) ∷ []
marker_commands (markers.Size size) = commands.C1 (size_code size) ∷ []

-- what stands in a cell, under its C1 set
abbrev pub content_commands : What → List Command
content_commands whats.Blank = []
content_commands (whats.Serial g) = commands.DesignateC1 c1sets.Serial ∷ glyph_commands g
content_commands (whats.Parallel g pen) =
    commands.DesignateC1 c1sets.Parallel ∷ (pen_commands (λ n. commands.C1 n) pen ++ glyph_commands g)
content_commands (whats.Marker m) = commands.DesignateC1 c1sets.Serial ∷ marker_commands m

-- protection, set before what is protected and taken back after it
abbrev pub protected_commands : Bool → List Command → List Command
protected_commands true written = commands.Protect true ∷ (written ++ commands.Protect false ∷ [])
protected_commands false written = written

-- a cell at its place; none where nothing stands in it
abbrev pub cell_commands : Place → Bool → What → List Command
cell_commands p protected whats.Blank = []
cell_commands p protected what =
    commands.Position p.row p.column ∷ protected_commands protected (content_commands what)
