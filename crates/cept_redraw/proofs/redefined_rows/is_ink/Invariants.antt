use Rattle.std.proofs.Common.{◌≡◌, ◌==◌, false, take}
use Rattle.std.specs.List.{list_any, range_with_len}
use Rattle.cept_profile.specs.PageParts.{dclut_in}
use Rattle.cept_redraw.proofs.redefined_rows.is_ink.Given as goal

abbrev pub invariant-loop-i : goal.invariant-loop-i
invariant-loop-i l = list_any (λ j. dclut_in l.colours.dclut j == l.entry) (take l.i (range_with_len 0 4)) ≡ false
