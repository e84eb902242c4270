use Rattle.std.proofs.Common.{◌≡◌, length, take, map}
use Rattle.cept_control.specs.Numbers.{bit}
use Rattle.cept_live.proofs.snapshot.bits_of.Given as goal

abbrev pub invariant-loop-n : goal.invariant-loop-n
invariant-loop-n l = record {
  places : length l.bits ≡ 960;
  made : take l.n l.bits ≡ map bit (take l.n l.marks);
}
