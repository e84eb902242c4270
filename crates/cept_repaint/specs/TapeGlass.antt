-- What a glass with a tape shows and tells (this project's own).
use Rattle.std.specs.Prelude.{ℕ}
use Rattle.cept_repaint.specs.declared.tape_glass.TapeGlass.{TapeGlass}
use Rattle.cept_repaint.specs.GlassState.{GlassState}
use Rattle.cept_repaint.specs.GridGlass.{grid_glass_state}
use Rattle.cept_repaint.specs.Tape.{Tape, tape_paints}

-- the tape of a glass
abbrev pub tape_of : TapeGlass → Tape
tape_of glass = record { kept = glass.paints.items; room = glass.room; over = glass.over }

-- how many paints it has room for
abbrev pub tape_room : TapeGlass → ℕ
tape_room glass = (tape_of glass).room

-- the grid, and the list of the tape
abbrev pub tape_glass_state : TapeGlass → GlassState
tape_glass_state glass = record { grid = (grid_glass_state glass.glass).grid; paints = tape_paints (tape_of glass) }
