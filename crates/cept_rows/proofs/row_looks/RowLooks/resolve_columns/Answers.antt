use Rattle.std.proofs.Common.{◌+◌, ◌*◌, ◌≡◌, arith, subst, sym}
use Rattle.cept_rows.specs.inside.Brush.{IsBrush}
use Rattle.cept_rows.proofs.FlaggedColumns.{IsResolvedTo-as, IsResolvedTo-differ, IsResolvedTo-looks, IsResolvedTo-none}
use Rattle.cept_rows.proofs.FlaggedColumns.{IsResolvedTo-skip, IsResolvedTo-to}
use Rattle.cept_rows.proofs.row_looks.RowLooks.resolve_columns.Goals as goal
use Rattle.cept_rows.proofs.row_looks.RowLooks.resolve_columns.Goals.{then-has_flag, else-has_flag}

pub loop-group-init : goal.loop-group-init
loop-group-init g c = record {
  columns = IsResolvedTo-none _ _ c.args.self.now c.columns_by_type.ensures.columns;
  brush = c.new-brush.ensures.brush;
}

pub loop-group-preserved : goal.loop-group-preserved
loop-group-preserved g c =
    let next : 8 * c.loop-group.group + 8 ≡ 8 * (c.loop-group.group + 1) = omega arith in
    elim c.if-has_flag.branch [
      | then-has_flag w ↦ record {
        columns = IsResolvedTo-to next
            (IsResolvedTo-as w.self-is w.differ-is
            (w.resolve_eight.ensures.columns c.args.self.now c.loop-group.invariant.columns));
        brush = subst (λ b. IsBrush c.args.source.now b) (sym w.brush-is) w.resolve_eight.ensures.brush;
      }
      | else-has_flag w ↦ record {
        columns = IsResolvedTo-to next
            (IsResolvedTo-as w.self-is w.differ-is
            (IsResolvedTo-skip 8 c.loop-group.invariant.columns (c.has_flag.ensures w.if-has_flag.false)));
        brush = subst (λ b. IsBrush c.args.source.now b) (sym w.brush-is) c.loop-group.invariant.brush;
      }
    ]

pub returns-clause-looks : goal.returns-clause-looks
returns-clause-looks g c = IsResolvedTo-looks c.loop-group.invariant.columns (omega arith)

pub returns-clause-differ : goal.returns-clause-differ
returns-clause-differ g c = IsResolvedTo-differ c.loop-group.invariant.columns (omega arith)
