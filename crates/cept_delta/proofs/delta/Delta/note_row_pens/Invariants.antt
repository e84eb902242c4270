use Rattle.std.proofs.Common.{◌≡◌, ◌≤◌, ◌&&◌, nat_le, nat_lt}
use Rattle.cept_profile.specs.OldValues.{with_row_pens}
use Rattle.cept_profile.specs.PageParts.{row_pen_in}
use Rattle.cept_delta.proofs.delta.Delta.note_row_pens.Given as goal

abbrev pub invariant-loop-number : goal.invariant-loop-number
invariant-loop-number l =
    (l.self ≡ with_row_pens (λ r. nat_le l.first r && nat_lt r l.number) (row_pen_in l.pens) l.fn.self)
    × (l.first ≤ l.number)
