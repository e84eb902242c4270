use Rattle.std.proofs.Common.{sym, ◌∙◌}
use Rattle.cept_redraw.proofs.AlteredRows.{altered-written}
use Rattle.cept_redraw.proofs.redraw.draw_altering.Goals as goal

pub returns-then-not-one_does_more-clause-altered : goal.returns-then-not-one_does_more-clause-altered
returns-then-not-one_does_more-clause-altered g c =
    altered-written c.args.page.now c.draw_all.new.self c.args.strokes.now c.args.before.now c.args.after.now
    c.args.rows.now c.rows_written.result (c.is_same.ensures.same c.if-is_same.true)
    (sym c.one_does_more.ensures ∙ c.if-not-one_does_more.true) c.draw_all.ensures.drawn c.requires.rows
    c.rows_written.ensures
