use Rattle.std.proofs.Common.{List}
use Rattle.cept_codes.specs.declared.look.Look.{Look}
use Rattle.cept_rows.specs.inside.Brush.{IsBrush}
use Rattle.cept_rows.specs.inside.Flagged.{IsResolvedTo}
use Rattle.cept_rows.specs.Source.{look_by_itself}
use Rattle.cept_rows.proofs.row_looks.RowLooks.resolve_eight.Given as goal

abbrev pub invariant-loop-k : goal.invariant-loop-k
invariant-loop-k l = record {
  columns : (was : List Look)
      → IsResolvedTo l.flags (look_by_itself l.source) was l.initial.self l.initial.differ l.fn.first
      → IsResolvedTo l.flags (look_by_itself l.source) was l.self l.differ l.k;
  brush : IsBrush l.source l.brush;
}
