use Rattle.std.proofs.Common.{◌≡◌, ◌+◌, ◌==◌, false, ap, ◌∙◌, arith}
use Rattle.std.specs.List.{range_with_len}
use Rattle.std.proofs.lemmas.Bool.{false_from_ne_true, eqb-true, or_from}
use Rattle.std.proofs.lemmas.List.Folds.{list_any_more}
use Rattle.std.proofs.lemmas.List.FromFn.{get_or-range_with_len}
use Rattle.cept_profile.specs.PageParts.{dclut_in}
use Rattle.cept_redraw.proofs.redefined_rows.is_ink.Goals as goal

pub loop-i-preserved : goal.loop-i-preserved
loop-i-preserved c =
    let other : (dclut_in c.args.colours.now.dclut c.loop-i.i == c.args.entry) ≡ false =
    false_from_ne_true (dclut_in c.args.colours.now.dclut c.loop-i.i == c.args.entry) (λ same.
    c.if-dclut-entry.false (c.dclut.ensures.dclut
    ∙ eqb-true (dclut_in c.args.colours.now.dclut c.loop-i.i) c.args.entry same)) in
    list_any_more (λ j. dclut_in c.args.colours.now.dclut j == c.args.entry) (range_with_len 0 4) c.loop-i.i 0
    c.loop-i-test.true
    ∙ or_from _ _ c.loop-i.invariant
    (ap (λ j. dclut_in c.args.colours.now.dclut j == c.args.entry)
    (get_or-range_with_len 0 4 c.loop-i.i 0 c.loop-i-test.true ∙ (let e : 0 + c.loop-i.i ≡ c.loop-i.i = omega arith in e))
    ∙ other)
