use Rattle.std.proofs.Common.{◌≡◌, true, nat_lt}
use Rattle.cept_profile.specs.OldValues.{with_dclut, with_paints}
use Rattle.cept_profile.specs.PageParts.{dclut_in, paint_in}
use Rattle.cept_delta.proofs.delta.Delta.note_colours.Given as goal

abbrev pub invariant-loop-i : goal.invariant-loop-i
invariant-loop-i l =
    l.self ≡ with_dclut (λ j. nat_lt j l.i) (dclut_in l.colours.dclut)
    (with_paints (λ _. true) (paint_in l.colours.paints) l.fn.self)
