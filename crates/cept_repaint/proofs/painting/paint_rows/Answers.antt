use Rattle.std.proofs.Common.{◌+◌, refl, arith}
use Rattle.cept_codes.specs.Place.{number}
use Rattle.cept_profile.specs.Look.{looks_of}
use Rattle.cept_profile.specs.State.{core_of}
use Rattle.cept_repaint.proofs.PaintedInOrder.{PaintedSoFar-none, PaintsAll-walked}
use Rattle.cept_repaint.proofs.PaintedRows.{PaintedSoFar-row}
use Rattle.cept_repaint.proofs.painting.paint_rows.Goals as goal

pub loop-row-init : goal.loop-row-init
loop-row-init g c = (
  omega arith,
  PaintedSoFar-none c.args.marks.now (looks_of (core_of c.args.screen.now)) (g.G.Glass.state c.args.glass.now),
)

pub loop-row-preserved : goal.loop-row-preserved
loop-row-preserved g c = (
  omega arith,
  PaintedSoFar-row c.loop-row.invariant.1 c.in-Some.row c.row_flags.result.now (g.G.Glass.state c.paint_row.new.self)
      (number (c.number-from.result + 1) 1) c.number-from.ensures.in_range.0
      c.number-from.ensures.in_range.1 (omega (arith, c.in-Some.ensures.at_least)) c.in-Some.ensures.before c.row_flags.ensures.flags
      c.paint_row.ensures (omega (arith, c.number-from.ensures.number, c.number-from.ensures.in_range)),
)

pub returns : goal.returns
returns g c = PaintsAll-walked c.loop-row.invariant.1 (c.in_default.ensures.none refl)
