use Rattle.cept_redraw.proofs.RowsOfLooks.{looks_in-kept}
use Rattle.cept_redraw.proofs.refreshed_rows.keep_row.Goals as goal

pub returns-else-differ : goal.returns-else-differ
returns-else-differ c =
    looks_in-kept c.args.kept.now c.args.row c.args.looks.now c.number-number.ensures.in_range.0
    (c.requires c.if-differ.false)
