-- What a glass in an array shows (this project's own).
use Rattle.std.specs.Prelude.{None}
use Rattle.cept_repaint.specs.declared.array_glass.ArrayGlass.{ArrayGlass}
use Rattle.cept_repaint.specs.GlassState.{GlassState}

-- the kept grid, and no list
abbrev pub array_glass_state : ArrayGlass → GlassState
array_glass_state glass = record { grid = glass.rows; paints = None }
