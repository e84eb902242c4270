use Rattle.cept_codes.specs.Look.{black_paint}
use Rattle.cept_codes.specs.Table.{HasMadeEntries}
use Rattle.cept_profile.specs.PageParts.{paint_in}
use Rattle.cept_rows.proofs.drawing.inks_of_four_planes.Given as goal

abbrev pub invariant-loop-i : goal.invariant-loop-i
invariant-loop-i l =
    HasMadeEntries black_paint 16 16 (paint_in l.colours.paints) (λ _. black_paint) l.paints l.i
