use Rattle.std.proofs.Common.{false, get_or, refl, sym, ap, ◌∙◌, arith}
use Rattle.cept_profile.specs.Look.{looks_of}
use Rattle.cept_profile.specs.State.{core_of}
use Rattle.cept_repaint.specs.TapeGlass.{tape_glass_state, tape_of, tape_room}
use Rattle.cept_repaint.proofs.PaintedRows.{PaintedTo-all, PaintedTo-as, PaintedTo-left, PaintedTo-more, PaintedTo-none}
use Rattle.cept_repaint.proofs.TapedRows.{taped-all, taped-left, taped-more, taped-none}
use Rattle.cept_repaint.proofs.tape_glass.TapeGlassGlass.paint_row.Goals as goal
use Rattle.cept_repaint.proofs.tape_glass.TapeGlassGlass.paint_row.Goals.{else-flags-from, then-flags-from}

pub loop-k-init : goal.loop-k-init
loop-k-init c = record {
  painted = PaintedTo-none c.args.flags.now c.args.row (looks_of (core_of c.args.screen.now))
      (tape_glass_state c.args.self.now);
  tape = taped-none c.args.flags.now c.args.row (looks_of (core_of c.args.screen.now)) (tape_of c.args.self.now);
  room = refl;
}

pub loop-k-preserved : goal.loop-k-preserved
loop-k-preserved c =
    let looks = looks_of (core_of c.args.screen.now) in
    let flag = ap (λ i. get_or c.args.flags.now i false) (sym c.from.ensures) in
    elim c.if-flags-from.branch [
      | then-flags-from w ↦ record {
        painted = PaintedTo-as (ap tape_glass_state w.self-is)
            (PaintedTo-more c.loop-k.invariant.painted (flag ∙ w.if-flags-from.true) w.at.result
            (tape_glass_state w.paint.new.self) w.at.ensures.row (w.at.ensures.column ∙ w.numbered.ensures)
            w.paint.ensures.paints);
        tape = ap tape_of w.self-is
            ∙ taped-more c.args.flags.now c.args.row looks (tape_of c.args.self.now) (tape_of c.loop-k.self)
            (tape_of w.paint.new.self) c.loop-k.k w.at.result c.loop-k.invariant.tape (flag ∙ w.if-flags-from.true)
            w.at.ensures.row (w.at.ensures.column ∙ w.numbered.ensures) w.paint.ensures.tape;
        room = ap tape_room w.self-is ∙ w.paint.ensures.room ∙ c.loop-k.invariant.room;
      }
      | else-flags-from w ↦ record {
        painted = PaintedTo-as (ap tape_glass_state w.self-is)
            (PaintedTo-left c.loop-k.invariant.painted (flag ∙ w.if-flags-from.false));
        tape = ap tape_of w.self-is
            ∙ taped-left c.args.flags.now c.args.row looks (tape_of c.args.self.now) (tape_of c.loop-k.self) c.loop-k.k
            c.loop-k.invariant.tape (flag ∙ w.if-flags-from.false);
        room = ap tape_room w.self-is ∙ c.loop-k.invariant.room;
      }
    ]

pub returns-clause-paints : goal.returns-clause-paints
returns-clause-paints c = PaintedTo-all c.loop-k.invariant.painted (omega arith)

pub returns-clause-tape : goal.returns-clause-tape
returns-clause-tape c =
    taped-all c.args.flags.now c.args.row (looks_of (core_of c.args.screen.now)) (tape_of c.args.self.now)
    (tape_of c.loop-k.self) c.loop-k.k c.loop-k.invariant.tape (omega arith)
