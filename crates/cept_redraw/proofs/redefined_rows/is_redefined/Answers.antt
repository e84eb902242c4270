use Rattle.std.proofs.Common.{refl, sym, ap, ◌∙◌}
use Rattle.std.proofs.lemmas.Bool.{or_from}
use Rattle.std.proofs.lemmas.List.Folds.{list_any_at, list_any_more}
use Rattle.cept_profile.specs.Reach.{is_redefined, redefines}
use Rattle.cept_redraw.proofs.ValidStrokes.{valid_item}
use Rattle.cept_redraw.proofs.redefined_rows.is_redefined.Goals as goal

pub loop-stroke-init : goal.loop-stroke-init
unfolding is_redefined
loop-stroke-init c = λ k r is. refl

pub redefines-requires : goal.redefines-requires
redefines-requires c = record {
  valid = valid_item c.args.strokes.now c.requires.each c.loop-stroke.stroke-index c.stroke-item.result
      c.loop-stroke-test.true c.stroke-item.is;
}

pub loop-stroke-preserved : goal.loop-stroke-preserved
unfolding is_redefined
loop-stroke-preserved c = λ k r is.
    list_any_more (redefines k r) c.args.strokes.now c.loop-stroke.stroke-index c.stroke-item.result
    c.loop-stroke-test.true
    ∙ or_from _ _ (c.loop-stroke.invariant k r is)
    (ap (redefines k r) (sym c.stroke-item.is) ∙ sym (c.redefines.ensures k r is) ∙ c.if-redefines.false)

pub returns-then-redefines : goal.returns-then-redefines
unfolding is_redefined
returns-then-redefines c = λ k r is.
    sym (list_any_at (redefines k r) c.args.strokes.now c.loop-stroke.stroke-index c.stroke-item.result
    c.loop-stroke-test.true
    (ap (redefines k r) (sym c.stroke-item.is) ∙ sym (c.redefines.ensures k r is) ∙ c.if-redefines.true))
