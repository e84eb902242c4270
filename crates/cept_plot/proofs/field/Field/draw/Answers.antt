use Rattle.cept_plot.proofs.FiguresInTurn.{AreLeft-more}
use Rattle.cept_plot.proofs.field.Field.draw.Goals as goal

pub loop-figure-preserved : goal.loop-figure-preserved
loop-figure-preserved c =
    AreLeft-more c.args.self.now c.loop-figure.self c.draw_figure.new.self c.args.drawing.now
    c.figures-figure-items.result.now c.loop-figure.figure-index _ c.loop-figure.invariant
    c.figures-figure-items.ensures.figures c.loop-figure-test.true c.draw_figure.ensures.points
