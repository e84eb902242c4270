use Rattle.std.proofs.Common.{◌≡◌}
use Rattle.cept_codes.specs.Look.{blank_look}
use Rattle.cept_codes.specs.Table.{list_by_index, row_of}
use Rattle.cept_redraw.proofs.kept_rows.KeptRows.new.Given as goal

abbrev pub invariant-loop-row : goal.invariant-loop-row
invariant-loop-row l = l.rows.items ≡ list_by_index 1 l._row (λ _. row_of (λ _. blank_look))
