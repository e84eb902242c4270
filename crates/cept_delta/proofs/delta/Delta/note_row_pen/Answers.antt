use Rattle.std.proofs.Common.{refl, ◌∙◌, arith}
use Rattle.cept_profile.specs.PageParts.{row_pen_in}
use Rattle.cept_delta.proofs.NotedInTurn.{pen_read, row_pen_one}
use Rattle.cept_delta.proofs.NotedValues.{row_pen_of_values}
use Rattle.cept_delta.proofs.delta.Delta.note_row_pen.Goals as goal

pub returns : goal.returns
returns c =
    row_pen_of_values c.self.invariant.places c.self.view_is c.index-index.result c.args.row _ _ _ c.first_noted.result
    (omega arith) (omega arith) (omega arith) refl c.first_noted.ensures
    ∙ row_pen_one c.args.self.now c.args.row _ (row_pen_in c.args.pens.now)
    (pen_read c.args.pens.now c.index-index.result c.args.row _ c.requires (omega arith) (omega arith) (omega arith))
