use Rattle.std.proofs.Common.{sym, ◌∙◌}
use Rattle.cept_redraw.proofs.DrawnPictures.{AreTicksOf-due}
use Rattle.cept_redraw.proofs.RowsDue.{mixes-else}
use Rattle.cept_redraw.proofs.picture.Picture.redraw_drawn.Goals as goal

pub redraw_rows-requires-clause-may : goal.redraw_rows-requires-clause-may
redraw_rows-requires-clause-may g c = record {
  kept = c.requires.may.kept;
  to = c.requires.may.to;
  strokes = c.requires.may.strokes;
}

pub returns-then-one_else-clause-done : goal.returns-then-one_else-clause-done
returns-then-one_else-clause-done g c = record {
  redrawn = c.redraw_rows.ensures.redrawn;
  ticks =
      AreTicksOf-due c.requires.may.kept c.requires.may.kept.of_core c.requires.may.strokes.each
      c.redraw_rows.ensures.redrawn.page
      c.redraw_rows.ensures.redrawn.kept.looks
      (mixes-else c.args.edges.now c.args.edges.now c.args.strokes.now (sym c.one_else.ensures ∙ c.if-one_else.true))
      c.redraw_rows.ensures.rows.cost;
  noted = c.redraw_rows.ensures.noted;
}
