use Rattle.std.proofs.Common.{refl}
use Rattle.cept_codes.specs.Place.{number}
use Rattle.cept_redraw.proofs.MarkedWithin.{HasFlags-none}
use Rattle.cept_redraw.proofs.marks.Marks.mark_row.Goals as goal

pub returns-then-not-has_one : goal.returns-then-not-has_one
returns-then-not-has_one c =
    HasFlags-none c.args.flags.now (number c.args.row 1) c.args.self.now c.places_by_type.ensures
    (c.if-not-has_one.ensures.none refl)
