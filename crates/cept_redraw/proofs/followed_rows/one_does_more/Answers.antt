use Rattle.std.proofs.Common.{refl, sym, ap, ◌∙◌}
use Rattle.std.proofs.lemmas.Bool.{or_from}
use Rattle.std.proofs.lemmas.List.Folds.{list_any_at, list_any_more}
use Rattle.cept_redraw.specs.inside.Due.{does_more}
use Rattle.cept_redraw.proofs.followed_rows.one_does_more.Goals as goal

pub loop-stroke-init : goal.loop-stroke-init
loop-stroke-init c = refl

pub loop-stroke-preserved : goal.loop-stroke-preserved
loop-stroke-preserved c =
    list_any_more does_more c.args.strokes.now c.loop-stroke.stroke-index c.stroke-item.result
    c.loop-stroke-test.true
    ∙ or_from _ _ c.loop-stroke.invariant
    (ap does_more (sym c.stroke-item.is) ∙ sym c.does_more.ensures ∙ c.if-does_more.false)

pub returns-then-does_more : goal.returns-then-does_more
returns-then-does_more c =
    sym (list_any_at does_more c.args.strokes.now c.loop-stroke.stroke-index c.stroke-item.result
    c.loop-stroke-test.true
    (ap does_more (sym c.stroke-item.is) ∙ sym c.does_more.ensures ∙ c.if-does_more.true))
