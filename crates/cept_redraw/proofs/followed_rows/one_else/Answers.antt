use Rattle.std.proofs.Common.{not, refl, sym, ap, ◌∙◌}
use Rattle.std.proofs.lemmas.Bool.{or_from}
use Rattle.std.proofs.lemmas.List.Folds.{list_any_at, list_any_more}
use Rattle.cept_codes.specs.declared.stroke.Stroke.{Stroke}
use Rattle.cept_redraw.specs.Resolved.{defines, one_else}
use Rattle.cept_redraw.proofs.followed_rows.one_else.Goals as goal

pub loop-stroke-init : goal.loop-stroke-init
unfolding one_else
loop-stroke-init c = refl

pub loop-stroke-preserved : goal.loop-stroke-preserved
unfolding one_else
loop-stroke-preserved c =
    list_any_more (λ x. not (defines x)) c.args.strokes.now c.loop-stroke.stroke-index c.stroke-item.result
    c.loop-stroke-test.true
    ∙ or_from _ _ c.loop-stroke.invariant
    (ap (λ (s : Stroke). not (defines s)) (sym c.stroke-item.is)
    ∙ ap not (sym c.defines.ensures ∙ c.if-not-defines.false))

pub returns-then-not-defines : goal.returns-then-not-defines
unfolding one_else
returns-then-not-defines c =
    sym (list_any_at (λ x. not (defines x)) c.args.strokes.now c.loop-stroke.stroke-index c.stroke-item.result
    c.loop-stroke-test.true
    (ap (λ (s : Stroke). not (defines s)) (sym c.stroke-item.is)
    ∙ ap not (sym c.defines.ensures ∙ c.if-not-defines.true)))
