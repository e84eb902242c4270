use Rattle.std.proofs.Common.{ap, ◌∙◌, arith}
use Rattle.cept_codes.specs.Look.{black_paint}
use Rattle.cept_codes.proofs.Laws.{HasMadeEntries-more}
use Rattle.cept_profile.specs.PageParts.{paint_in}
use Rattle.cept_rows.specs.DrawnWith.{drawn_with}
use Rattle.cept_rows.proofs.Drawings.{all_black, two_planes}
use Rattle.cept_rows.proofs.drawing.inks_of_two_planes.Goals as goal

pub loop-i-init : goal.loop-i-init
loop-i-init c = all_black _ _

pub loop-i-preserved : goal.loop-i-preserved
loop-i-preserved c =
    HasMadeEntries-more black_paint c.paint.result 0 16 _ _ c.loop-i.paints c.loop-i.i c.from.result c.loop-i.i
    c.loop-i.invariant (omega arith) c.from.ensures (omega arith) (c.paint.ensures.paint
    ∙ ap (λ d. paint_in c.args.colours.now.paints d) c.dclut.ensures.dclut)

pub returns : goal.returns
returns c patterns =
    two_planes (drawn_with c.args.colours.now patterns) c.loop-i.paints c.loop-i.i c.loop-i.invariant (omega arith)
