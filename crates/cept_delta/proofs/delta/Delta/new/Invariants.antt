use Rattle.std.proofs.Common.{◌≡◌, None}
use Rattle.cept_codes.specs.Table.{list_by_index, row_of}
use Rattle.cept_delta.proofs.delta.Delta.new.Given as goal

abbrev pub invariant-loop-row : goal.invariant-loop-row
invariant-loop-row l = l.cells.items ≡ list_by_index 1 l._row (λ _. row_of (λ _. None))

abbrev pub invariant-loop-code : goal.invariant-loop-code
invariant-loop-code l = l.patterns.items ≡ list_by_index 0x21 l._code (λ _. None)
