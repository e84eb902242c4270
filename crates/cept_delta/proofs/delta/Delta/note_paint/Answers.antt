use Rattle.std.proofs.Common.{refl, ◌∙◌}
use Rattle.cept_profile.specs.PageParts.{paint_in}
use Rattle.cept_delta.proofs.NotedInTurn.{paint_one}
use Rattle.cept_delta.proofs.NotedValues.{paint_of_values}
use Rattle.cept_delta.proofs.delta.Delta.note_paint.Goals as goal

pub returns : goal.returns
returns c =
    paint_of_values c.self.invariant.places c.self.view_is c.from.result c.args.i c.paint.result _ _ c.note.new.place
    c.requires c.from.ensures refl c.note.ensures
    ∙ paint_one c.args.self.now c.args.i c.paint.result (paint_in c.args.colours.now.paints) c.paint.ensures.paint
