use Rattle.std.proofs.Common.{length, ap, ◌∙◌}
use Rattle.cept_codes.proofs.Laws.{length-list_by_index, row_of-list_by_index}
use Rattle.cept_redraw.proofs.LooksWritten.{IsTable-row_set}
use Rattle.cept_redraw.proofs.kept_rows.KeptRows.copy_flagged.Goals as goal

pub invariant_of-self : goal.invariant_of-self
invariant_of-self c = (
  IsTable-row_set c.self.invariant.0 c.index.result c.copy_flagged.new.self c.index.ensures.below
      (ap length (c.copy_flagged.ensures ∙ row_of-list_by_index _) ∙ length-list_by_index 1 40 _),
  c.self.invariant.1,
)
