-- What a glass in memory shows (this project's own).
use Rattle.std.specs.Prelude.{None}
use Rattle.cept_repaint.specs.declared.grid_glass.GridGlass.{GridGlass}
use Rattle.cept_repaint.specs.GlassState.{GlassState}

-- the kept grid, and no list
abbrev pub grid_glass_state : GridGlass → GlassState
grid_glass_state glass = record { grid = glass.rows; paints = None }
