use Rattle.std.proofs.Common.{◌≡◌, ◌≤◌, ◌&&◌, nat_le, nat_lt}
use Rattle.cept_codes.specs.Cell.{blank_cell}
use Rattle.cept_codes.specs.Table.{value_at}
use Rattle.cept_profile.specs.OldValues.{with_cells}
use Rattle.cept_delta.proofs.delta.Delta.note_rows.Given as goal

abbrev pub invariant-loop-number : goal.invariant-loop-number
invariant-loop-number l =
    (l.self ≡ with_cells (λ r _. nat_le l.first r && nat_lt r l.number) (value_at blank_cell l.grid) l.fn.self)
    × (l.first ≤ l.number)
