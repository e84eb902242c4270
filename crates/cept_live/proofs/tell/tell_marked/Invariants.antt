use Rattle.std.proofs.Common.{◌≤◌, ◌+◌, ◌-◌}
use Rattle.cept_profile.specs.Look.{looks_of}
use Rattle.cept_profile.specs.State.{core_of}
use Rattle.cept_live.proofs.SayingsTold.{TellsMarked, sayings_below}
use Rattle.cept_live.proofs.tell.tell_marked.Given as goal

abbrev pub invariant-loop-place : goal.invariant-loop-place
invariant-loop-place l = record {
  within : l.number ≤ 960;
  few : l.to ≤ l.from + l.number;
  told : TellsMarked l.fn.list l.from l.fn.renewed (sayings_below l.at l.marks (looks_of (core_of l.screen)) l.number) l.to l.list
      l.renewed;
}

abbrev pub decreases-loop-place : goal.decreases-loop-place
decreases-loop-place l = 960 - l.number
