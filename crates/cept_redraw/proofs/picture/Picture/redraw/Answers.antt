use Rattle.std.proofs.Common.{length, subst, sym, ◌∙◌}
use Rattle.std.proofs.lemmas.Bool.{eqb-true}
use Rattle.cept_profile.specs.Edges.{Edges}
use Rattle.cept_redraw.specs.Picture.{AreTicksOf, IsKeptOn}
use Rattle.cept_redraw.proofs.DrawnPictures.{AreTicksOf-due, AreTicksOf-none, IsNotedAlong-none, IsRedrawn-none}
use Rattle.cept_redraw.proofs.RowsDue.{mixes-edges}
use Rattle.cept_redraw.proofs.picture.Picture.redraw.Goals as goal

pub returns-then-not-is_same : goal.returns-then-not-is_same
returns-then-not-is_same g c = record {
  redrawn = c.redraw_rows.ensures.redrawn;
  ticks =
      AreTicksOf-due c.requires.kept c.requires.to c.requires.strokes.each c.redraw_rows.ensures.redrawn.page
      c.redraw_rows.ensures.redrawn.kept.looks
      (mixes-edges c.args.before.now c.args.after.now c.args.strokes.now (c.is_same.ensures.others c.if-not-is_same.true))
      c.redraw_rows.ensures.rows.cost;
  noted = c.redraw_rows.ensures.noted;
}

pub returns-then-is_empty : goal.returns-then-is_empty
returns-then-is_empty g c = record {
  redrawn =
      IsRedrawn-none (subst (λ (e : Edges). IsKeptOn c.args.self.now e) (c.is_same.ensures.same c.if-not-is_same.false)
      c.requires.kept) c.args.strokes.now
      (eqb-true (length c.args.strokes.now) 0 (sym c.is_empty.ensures ∙ c.if-is_empty.true)) c.clear.new.self
      c.clear.ensures;
  ticks =
      AreTicksOf-none c.args.self.now c.args.before.now c.args.after.now c.args.strokes.now
      (eqb-true (length c.args.strokes.now) 0 (sym c.is_empty.ensures ∙ c.if-is_empty.true)) c.args.steps.now;
  noted =
      IsNotedAlong-none c.args.self.now.page c.args.strokes.now (g.N.Noter.noted c.args.noter.now)
      (eqb-true (length c.args.strokes.now) 0 (sym c.is_empty.ensures ∙ c.if-is_empty.true));
}

pub redraw_drawn-requires-clause-may : goal.redraw_drawn-requires-clause-may
redraw_drawn-requires-clause-may g c = record {
  kept =
      subst (λ (e : Edges). IsKeptOn c.args.self.now e) (c.is_same.ensures.same c.if-not-is_same.false) c.requires.kept;
  to = c.requires.to;
  strokes = c.requires.strokes;
}

pub returns : goal.returns
returns g c = record {
  redrawn = c.redraw_drawn.ensures.done.redrawn;
  ticks =
      subst (λ (e : Edges). AreTicksOf c.args.strokes.now e c.args.after.now c.args.self.now c.redraw_drawn.new.self
      c.args.steps.now c.redraw_drawn.new.steps) (sym (c.is_same.ensures.same c.if-not-is_same.false))
      c.redraw_drawn.ensures.done.ticks;
  noted = c.redraw_drawn.ensures.done.noted;
}
