use Rattle.cept_plot.proofs.LineSet.{IsDrawnTo}
use Rattle.cept_plot.proofs.field.Field.add_line.Given as goal

-- the points to that of step i are set, and both coordinates are there
abbrev pub invariant-loop-step : goal.invariant-loop-step
invariant-loop-step l = IsDrawnTo l.fn.self l.self l.fn.from l.fn.to l.steps l._step l.x l.y l.across l.down
