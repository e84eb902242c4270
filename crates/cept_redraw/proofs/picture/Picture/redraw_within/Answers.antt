use Rattle.std.proofs.Common.{List, length, sym, subst, ◌∙◌}
use Rattle.std.proofs.lemmas.Bool.{eqb-true}
use Rattle.cept_codes.specs.declared.stroke.Stroke.{Stroke}
use Rattle.cept_profile.specs.Edges.{Edges, edges_of}
use Rattle.cept_redraw.specs.Picture.{AreDrawable, IsKeptOn, IsRedrawnAlong}
use Rattle.cept_redraw.proofs.DrawnPictures.{AreTicksOf-none, IsNotedAlong-none}
use Rattle.cept_redraw.proofs.DrawnPictures.{IsRedrawn-none}
use Rattle.cept_redraw.proofs.picture.Picture.redraw_within.Goals as goal

-- ---- no stroke

pub returns-then-is_empty : goal.returns-then-is_empty
returns-then-is_empty g c = record {
  redrawn =
      IsRedrawn-none c.requires.kept c.args.strokes.now
      (eqb-true (length c.args.strokes.now) 0 (sym c.is_empty.ensures ∙ c.if-is_empty.true)) c.clear.new.self
      c.clear.ensures;
  ticks =
      AreTicksOf-none c.args.self.now (edges_of c.args.control.now) (edges_of c.args.control.now) c.args.strokes.now
      (eqb-true (length c.args.strokes.now) 0 (sym c.is_empty.ensures ∙ c.if-is_empty.true)) c.args.steps.now;
  noted =
      IsNotedAlong-none c.args.self.now.page c.args.strokes.now (g.N.Noter.noted c.args.noter.now)
      (eqb-true (length c.args.strokes.now) 0 (sym c.is_empty.ensures ∙ c.if-is_empty.true));
}

-- ---- one cell that is put

pub redraw_put-requires : goal.redraw_put-requires
redraw_put-requires g c = record {
  kept = c.requires.kept;
  to = c.requires.to;
  strokes = subst (λ (xs : List Stroke). AreDrawable xs c.args.self.now.page) c.in-Some.ensures c.requires.strokes;
}

pub returns-in-Some : goal.returns-in-Some
returns-in-Some g c =
    subst (λ (xs : List Stroke). IsRedrawnAlong xs (edges_of c.args.control.now) (edges_of c.args.control.now)
    c.args.self.now c.redraw_put.new.self c.redraw_put.new.marks c.args.steps.now c.redraw_put.new.steps
    (g.N.Noter.noted c.args.noter.now) (g.N.Noter.noted c.redraw_put.new.noter)) (sym c.in-Some.ensures)
    c.redraw_put.ensures

-- ---- any other strokes

pub redraw_drawn-requires-clause-may : goal.redraw_drawn-requires-clause-may
redraw_drawn-requires-clause-may g c =
    let kept = subst (λ (e : Edges). IsKeptOn c.args.self.now e) (sym c.edges-within.ensures) c.requires.kept in
    record { kept = kept; to = kept.of_core; strokes = c.requires.strokes }

pub returns : goal.returns
returns g c =
    subst (λ (e : Edges). IsRedrawnAlong c.args.strokes.now e e c.args.self.now c.redraw_drawn.new.self
    c.redraw_drawn.new.marks c.args.steps.now c.redraw_drawn.new.steps (g.N.Noter.noted c.args.noter.now)
    (g.N.Noter.noted c.redraw_drawn.new.noter)) c.edges-within.ensures c.redraw_drawn.ensures.done
