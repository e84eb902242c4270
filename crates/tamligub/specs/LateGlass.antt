-- What a glass shows that is blank until it is painted (this project's own).
use Rattle.std.specs.Prelude.{None}
use Rattle.cept_repaint.specs.GlassState.{GlassState}
use Rattle.tamligub.specs.declared.late_glass.LateGlass.{LateGlass}
use Rattle.tamligub.specs.inside.Blank.{late_grid}

-- this grid, and no list
abbrev pub late_glass_state : LateGlass → GlassState
late_glass_state glass = record { grid = late_grid glass.painted; paints = None }
