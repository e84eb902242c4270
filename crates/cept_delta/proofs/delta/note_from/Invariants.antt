use Rattle.std.proofs.Common.{None, nat_le}
use Rattle.cept_codes.specs.Cell.{blank_cell}
use Rattle.cept_codes.specs.Table.{HasMadeEntries, entry}
use Rattle.cept_profile.specs.OldValues.{noted_where}
use Rattle.cept_delta.proofs.delta.note_from.Given as goal

abbrev pub invariant-loop-i : goal.invariant-loop-i
invariant-loop-i l =
    HasMadeEntries None 1 40
    (λ c. noted_where (nat_le l.from c) (entry blank_cell 1 l.cells c) (entry None 1 l.fn.noted c))
    (entry None 1 l.fn.noted) l.noted l.i
