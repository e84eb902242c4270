use Rattle.cept_plot.proofs.FiguresInTurn.{AreLeft}
use Rattle.cept_plot.proofs.field.Field.draw.Given as goal

-- the figures from the next one on are left to be drawn
abbrev pub invariant-loop-figure : goal.invariant-loop-figure
invariant-loop-figure l = AreLeft l.fn.self l.self l.fn.drawing l.figure-index
