use Rattle.cept_profile.specs.Look.{looks_of}
use Rattle.cept_profile.specs.State.{core_of}
use Rattle.cept_repaint.proofs.PaintedRows.{PaintedTo}
use Rattle.cept_repaint.proofs.glass.Glass.paint_row.Given as goal

abbrev pub invariant-loop-k : goal.invariant-loop-k
invariant-loop-k g l =
    PaintedTo l.flags l.row (looks_of (core_of l.screen)) (g.Self.Glass.state l.fn.self) (g.Self.Glass.state l.self) l.k
