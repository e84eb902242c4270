use Rattle.std.proofs.Common.{false, get_or, sym, ap, ◌∙◌, arith}
use Rattle.cept_profile.specs.Look.{looks_of}
use Rattle.cept_profile.specs.State.{core_of}
use Rattle.cept_repaint.proofs.PaintedRows.{PaintedTo-all, PaintedTo-as, PaintedTo-left, PaintedTo-more, PaintedTo-none}
use Rattle.cept_repaint.proofs.glass.Glass.paint_row.Goals as goal
use Rattle.cept_repaint.proofs.glass.Glass.paint_row.Goals.{else-flags-from, then-flags-from}

pub loop-k-init : goal.loop-k-init
loop-k-init g c =
    PaintedTo-none c.args.flags.now c.args.row (looks_of (core_of c.args.screen.now)) (g.Self.Glass.state c.args.self.now)

pub loop-k-preserved : goal.loop-k-preserved
loop-k-preserved g c =
    let flag = ap (λ i. get_or c.args.flags.now i false) (sym c.from.ensures) in
    elim c.if-flags-from.branch [
      | then-flags-from w ↦
          PaintedTo-as (ap g.Self.Glass.state w.self-is)
          (PaintedTo-more c.loop-k.invariant (flag ∙ w.if-flags-from.true) w.at.result
          (g.Self.Glass.state w.paint.new.self) w.at.ensures.row (w.at.ensures.column ∙ w.numbered.ensures) w.paint.ensures)
      | else-flags-from w ↦
          PaintedTo-as (ap g.Self.Glass.state w.self-is)
          (PaintedTo-left c.loop-k.invariant (flag ∙ w.if-flags-from.false))
    ]

pub returns : goal.returns
returns g c = PaintedTo-all c.loop-k.invariant (omega arith)
