use Rattle.std.proofs.Common.{◌*◌}
use Rattle.cept_rows.specs.inside.Brush.{IsBrush}
use Rattle.cept_rows.specs.inside.Flagged.{IsResolvedTo}
use Rattle.cept_rows.specs.Source.{look_by_itself}
use Rattle.cept_rows.proofs.row_looks.RowLooks.resolve_columns.Given as goal

abbrev pub invariant-loop-group : goal.invariant-loop-group
invariant-loop-group g l = record {
  columns : IsResolvedTo l.flags (look_by_itself l.source) l.initial.self l.self l.differ (8 * l.group);
  brush : IsBrush l.source l.brush;
}
