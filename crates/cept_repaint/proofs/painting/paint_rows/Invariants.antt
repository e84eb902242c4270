use Rattle.std.proofs.Common.{◌-◌, ◌≤◌}
use Rattle.cept_codes.specs.Place.{number}
use Rattle.cept_profile.specs.Look.{looks_of}
use Rattle.cept_profile.specs.State.{core_of}
use Rattle.cept_repaint.proofs.PaintedInOrder.{PaintedSoFar}
use Rattle.cept_repaint.proofs.painting.paint_rows.Given as goal

abbrev pub invariant-loop-row : goal.invariant-loop-row
invariant-loop-row g l =
    (1 ≤ l.from) × PaintedSoFar l.marks (looks_of (core_of l.screen)) (g.G.Glass.state l.fn.glass)
    (g.G.Glass.state l.glass) (number l.from 1)

abbrev pub decreases-loop-row : goal.decreases-loop-row
decreases-loop-row g l = 25 - l.from
