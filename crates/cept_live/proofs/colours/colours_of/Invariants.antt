use Rattle.std.proofs.Common.{◌≡◌, length, take}
use Rattle.cept_live.specs.Colours.{first_entries}
use Rattle.cept_live.proofs.colours.colours_of.Given as goal

abbrev pub invariant-loop-i : goal.invariant-loop-i
invariant-loop-i l = record {
  places : length l.colours ≡ 32;
  made : take l.i l.colours ≡ first_entries l.screen.page.paints l.i;
}
