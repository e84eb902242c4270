use Rattle.std.proofs.Common.{◌≡◌}
use Rattle.cept_profile.specs.Look.{looks_of}
use Rattle.cept_profile.specs.State.{core_of}
use Rattle.cept_repaint.specs.Tape.{tape_after_all}
use Rattle.cept_repaint.specs.TapeGlass.{tape_glass_state, tape_of, tape_room}
use Rattle.cept_repaint.proofs.PaintedRows.{PaintedTo, flagged_below}
use Rattle.cept_repaint.proofs.tape_glass.TapeGlassGlass.paint_row.Given as goal

abbrev pub invariant-loop-k : goal.invariant-loop-k
invariant-loop-k l = record {
  painted : PaintedTo l.flags l.row (looks_of (core_of l.screen)) (tape_glass_state l.fn.self)
      (tape_glass_state l.self) l.k;
  tape : tape_of l.self
      ≡ tape_after_all (tape_of l.fn.self) (flagged_below l.flags l.row (looks_of (core_of l.screen)) l.k);
  room : tape_room l.self ≡ tape_room l.fn.self;
}
