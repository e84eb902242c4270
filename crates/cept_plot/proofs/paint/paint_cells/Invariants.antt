use Rattle.cept_profile.specs.State.{Core}
use Rattle.cept_plot.specs.inside.Drawing.{StandsDrawn}
use Rattle.cept_plot.specs.Lit.{is_lit}
use Rattle.cept_plot.proofs.PaintedCells.{StandsPainted}
use Rattle.cept_plot.proofs.paint.paint_cells.Given as goal

-- the cells with numbers below n are painted
abbrev pub invariant-loop-n : goal.invariant-loop-n
invariant-loop-n g l = (k : Core) → StandsDrawn k (is_lit l.field) 0 l.fn.screen
    → StandsPainted k (is_lit l.field) l.n l.fn.screen l.screen (g.G.Glass.state l.fn.glass) (g.G.Glass.state l.glass)
    l.fn.steps l.steps
