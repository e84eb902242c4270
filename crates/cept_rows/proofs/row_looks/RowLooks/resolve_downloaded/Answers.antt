use Rattle.std.proofs.Common.{not, ap, ◌∙◌}
use Rattle.cept_rows.specs.Flagged.{look_at}
use Rattle.cept_rows.specs.inside.Flagged.{with_look}
use Rattle.cept_rows.specs.Source.{look_by_itself}
use Rattle.cept_rows.proofs.CellsAlone.{alone_drawn, alone_kept}
use Rattle.cept_rows.proofs.KeptRows.{entry_at, kept_at}
use Rattle.cept_rows.proofs.row_looks.RowLooks.resolve_downloaded.Goals as goal

pub same_with-differs-requires-clause-a : goal.same_with-differs-requires-clause-a
same_with-differs-requires-clause-a c =
    rw c.index-k.ensures.index (kept_at c.self.inside c.args.column _ _ c.self.invariant
    c.index-k.ensures.in_range.0 c.index-k.ensures.in_range.1)

pub same_with-differs-requires-clause-b : goal.same_with-differs-requires-clause-b
same_with-differs-requires-clause-b c =
    alone_drawn c.args.source.now c.args.column _ _ c.valid_by_type.ensures
    (c.valid_by_type.ensures.cells c.args.column c.index-k.ensures.in_range.0 c.index-k.ensures.in_range.1)
    c.small_alone-fresh.ensures c.drawing-drawing.ensures

pub put_drawn-requires : goal.put_drawn-requires
put_drawn-requires c =
    alone_drawn c.args.source.now c.args.column _ _ c.valid_by_type.ensures
    (c.valid_by_type.ensures.cells c.args.column c.index-k.ensures.in_range.0 c.index-k.ensures.in_range.1)
    c.small_alone-fresh.ensures c.drawing-drawing.ensures

pub returns : goal.returns
returns c =
    let kept = alone_kept c.args.source.now c.args.column _ _ c.small_alone-fresh.ensures c.drawing-drawing.ensures in
    record {
      looks = c.put_drawn.ensures ∙ ap (λ l. with_look c.args.self.now c.args.column l) kept;
      differs = ap not (c.same_with-differs.ensures (look_at c.args.self.now c.args.column)
          (look_by_itself c.args.source.now c.args.column)
          (rw c.index-k.ensures.index (entry_at c.self.inside c.args.self.now c.args.column _ _ c.self.invariant
          c.self.view_is c.index-k.ensures.in_range.0 c.index-k.ensures.in_range.1)) kept);
    }
