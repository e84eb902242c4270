use Rattle.cept_profile.specs.Serial.{is_marker}
use Rattle.cept_delta.specs.Noted.{notes_row}
use Rattle.cept_profile.specs.PageParts.{row_pen_in}
use Rattle.std.proofs.Common.{sym, ap, ◌∙◌, arith}
use Rattle.cept_delta.proofs.Laws.{unnoted}
use Rattle.cept_page.specs.inside.FlagsAnew.{IsSingle, RowHasNone, row_in_table}
use Rattle.cept_page.proofs.FlagsAnew.{IsFlagMade-stays}
use Rattle.cept_page.proofs.flags_anew.flag_row_unwound.Goals as goal

pub returns-else-notes_row-clause-marked : goal.returns-else-notes_row-clause-marked
returns-else-notes_row-clause-marked c =
    IsFlagMade-stays (RowHasNone is_marker (row_in_table c.args.grid.now c.args.row)) c.args.delta.now c.args.row
    c.args.marked.now c.requires.marked_rows (unnoted c.args.delta.now c.args.row (omega arith)
    (ap (notes_row c.args.delta.now) (sym c.number.ensures.number) ∙ sym c.notes_row.ensures ∙ c.if-notes_row.false))

pub returns-else-notes_row-clause-sized : goal.returns-else-notes_row-clause-sized
returns-else-notes_row-clause-sized c =
    IsFlagMade-stays (IsSingle (row_in_table c.args.grid.now c.args.row) (row_pen_in c.args.row_pens.now c.args.row))
    c.args.delta.now c.args.row c.args.sized.now c.requires.sized_rows
    (unnoted c.args.delta.now c.args.row (omega arith)
    (ap (notes_row c.args.delta.now) (sym c.number.ensures.number) ∙ sym c.notes_row.ensures ∙ c.if-notes_row.false))
