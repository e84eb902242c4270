use Rattle.std.proofs.Common.{◌≡◌, length, take}
use Rattle.cept_live.specs.Notices.{colours_of}
use Rattle.cept_live.proofs.notice.colours_of.Given as goal

abbrev pub invariant-loop-i : goal.invariant-loop-i
invariant-loop-i l = record {
  places : length l.colours ≡ 16;
  made : take l.i l.colours ≡ colours_of (take l.i l.paints);
}
