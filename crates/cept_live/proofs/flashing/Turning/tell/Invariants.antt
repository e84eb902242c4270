use Rattle.std.proofs.Common.{◌≤◌}
use Rattle.cept_flash.specs.Phases.{frame}
use Rattle.cept_profile.specs.Changes.{differences}
use Rattle.cept_profile.specs.Look.{looks_of}
use Rattle.cept_profile.specs.State.{core_of}
use Rattle.cept_live.specs.Live.{Tells}
use Rattle.cept_live.specs.inside.Turning.{looks_before}
use Rattle.cept_live.proofs.SayingsTold.{sayings_below}
use Rattle.cept_live.proofs.flashing.Turning.tell.Given as goal

abbrev pub invariant-loop-n : goal.invariant-loop-n
invariant-loop-n l = record {
  few : l.to ≤ l.n;
  tells : Tells l.fn.list 0 (sayings_below l.at
      (differences (looks_before l.self.before (looks_of (core_of l.self.screen.now)) l.self.renewed.now)
      (frame (looks_of (core_of l.self.screen.now)) l.self.phase))
      (frame (looks_of (core_of l.self.screen.now)) l.self.phase) l.n) l.to l.list;
}
