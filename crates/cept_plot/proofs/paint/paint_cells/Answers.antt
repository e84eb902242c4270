use Rattle.std.proofs.Common.{arith, rules}
use Rattle.cept_plot.specs.Lit.{is_lit}
use Rattle.cept_plot.proofs.PaintedCells.{StandsPainted-all, StandsPainted-more, StandsPainted-none}
use Rattle.cept_plot.proofs.paint.paint_cells.Goals as goal

pub loop-n-init : goal.loop-n-init
loop-n-init g c = λ k stands.
    StandsPainted-none k (is_lit c.args.field.now) c.args.screen.now (g.G.Glass.state c.args.glass.now) c.args.steps.now stands

pub loop-n-preserved : goal.loop-n-preserved
loop-n-preserved g c = λ k stands.
    StandsPainted-more (c.loop-n.invariant k stands) c.loop-n-test.true _ (search rules) c.paint_cell.ensures

pub returns : goal.returns
returns g c = λ k stands. StandsPainted-all (c.loop-n.invariant k stands) (omega arith)
