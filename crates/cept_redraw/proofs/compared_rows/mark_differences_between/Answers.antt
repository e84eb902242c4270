use Rattle.std.proofs.Common.{refl, ◌∙◌}
use Rattle.cept_codes.specs.Place.{number}
use Rattle.cept_redraw.proofs.MarkedDifferences.{HasMarkedRow-flags, other_above}
use Rattle.cept_redraw.proofs.compared_rows.mark_differences_between.Goals as goal

pub returns-clause-marked : goal.returns-clause-marked
returns-clause-marked c =
    HasMarkedRow-flags c.args.was.now c.args.now.now c.args.row (number c.args.row 1) c.differences-found.result.columns
    c.args.marks.now c.mark_row.new.self c.differences-found.ensures.columns refl c.mark_row.ensures

pub returns-clause-covering : goal.returns-clause-covering
returns-clause-covering c =
    c.differences-found.ensures.covering ∙ other_above c.args.was.now c.args.now.now
