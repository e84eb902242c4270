use Rattle.std.proofs.Common.{None}
use Rattle.cept_codes.specs.Table.{HasMadeRows, value_at}
use Rattle.cept_delta.proofs.delta.forget_cells.Given as goal

abbrev pub invariant-loop-row : goal.invariant-loop-row
invariant-loop-row l = HasMadeRows None (λ _ _. None) (value_at None l.fn.cells) l.cells l.row
