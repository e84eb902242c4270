use Rattle.std.proofs.Common.{◌≤◌, ◌-◌, length, take}
use Rattle.cept_live.specs.Live.{Feeds}
use Rattle.cept_live.proofs.BytesFed.{FeedsIfPossible}
use Rattle.cept_live.proofs.live.Live.feed_counted.Given as goal

abbrev pub invariant-loop-taken : goal.invariant-loop-taken
invariant-loop-taken g l = record {
  most : l.taken ≤ length l.bytes;
  few : l.notices ≤ length l.list;
  feeds : Feeds l.fn.self (take l.taken l.bytes) l.fn.list 0 l.self l.notices l.list;
  if_possible : FeedsIfPossible l.fn.self l.fn.list l.taken l.notices l.self l.list;
}

abbrev pub decreases-loop-taken : goal.decreases-loop-taken
decreases-loop-taken g l = length l.bytes - l.taken
