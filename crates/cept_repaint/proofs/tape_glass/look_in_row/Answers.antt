use Rattle.std.proofs.Common.{◌∙◌}
use Rattle.cept_profile.specs.State.{core_of}
use Rattle.cept_repaint.proofs.LooksSeen.{look_at-in_row}
use Rattle.cept_repaint.proofs.tape_glass.look_in_row.Goals as goal

pub returns-clause-look : goal.returns-clause-look
returns-clause-look c =
    c.at.ensures.look
    ∙ look_at-in_row (core_of c.args.screen.now) c.args.at c.row_looks.result.now c.row.result c.col.result
    c.row.ensures.on_screen c.row_looks.ensures.looks c.row.ensures.row c.col.ensures.column
