use Rattle.std.proofs.Common.{sym, ◌∙◌}
use Rattle.cept_rows.proofs.CellsAlone.{alone_plain, alone_replaced}
use Rattle.cept_rows.proofs.RowsAlone.{low_alone}
use Rattle.cept_rows.proofs.row_looks.RowLooks.resolve_alone.Goals as goal

pub replace-requires-clause-look : goal.replace-requires-clause-look
replace-requires-clause-look g c =
    alone_plain c.args.source.now c.args.column c.what-what.result.now c.small_alone-fresh.result c.valid_by_type.ensures
    c.what-what.ensures.what c.what-what.ensures.valid (sym c.is_downloaded.ensures ∙ c.if-is_downloaded.false)
    c.small_alone-fresh.ensures

pub replace-requires-clause-low : goal.replace-requires-clause-low
replace-requires-clause-low g c = low_alone c.small_alone-fresh.result _ _ _ _ c.small_alone-fresh.ensures

pub returns-clause-looks : goal.returns-clause-looks
returns-clause-looks g c =
    (alone_replaced c.args.source.now c.args.column c.small_alone-fresh.result c.args.self.now _ _
    (replace-requires-clause-look g c.before) c.small_alone-fresh.ensures c.replace.ensures).looks

pub returns-clause-differs : goal.returns-clause-differs
returns-clause-differs g c =
    (alone_replaced c.args.source.now c.args.column c.small_alone-fresh.result c.args.self.now _ _
    (replace-requires-clause-look g c.before) c.small_alone-fresh.ensures c.replace.ensures).differs
