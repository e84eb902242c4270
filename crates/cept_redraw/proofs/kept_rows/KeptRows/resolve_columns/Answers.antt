use Rattle.std.proofs.Common.{length, ap, ◌∙◌}
use Rattle.cept_codes.proofs.Laws.{length-list_by_index, row_of-list_by_index}
use Rattle.cept_redraw.proofs.LooksWritten.{IsTable-row_set}
use Rattle.cept_redraw.proofs.kept_rows.KeptRows.resolve_columns.Goals as goal

pub invariant_of-self : goal.invariant_of-self
invariant_of-self g c = (
  IsTable-row_set c.self.invariant.0 c.index.result c.resolve_columns.new.self c.index.ensures.below
      (ap length (c.resolve_columns.ensures.looks ∙ row_of-list_by_index _) ∙ length-list_by_index 1 40 _),
  c.self.invariant.1,
)
