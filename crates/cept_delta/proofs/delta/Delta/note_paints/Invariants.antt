use Rattle.std.proofs.Common.{◌≡◌, nat_lt}
use Rattle.cept_profile.specs.OldValues.{with_paints}
use Rattle.cept_profile.specs.PageParts.{paint_in}
use Rattle.cept_delta.proofs.delta.Delta.note_paints.Given as goal

abbrev pub invariant-loop-i : goal.invariant-loop-i
invariant-loop-i l = l.self ≡ with_paints (λ j. nat_lt j l.i) (paint_in l.colours.paints) l.fn.self
