use Rattle.std.proofs.Common.{◌≡◌, ◌%◌}
use Rattle.cept_outside.specs.SinkState.{Gains}
use Rattle.cept_profile.specs.Look.{looks_of}
use Rattle.cept_profile.specs.State.{core_of}
use Rattle.cept_report.proofs.PhaseLines.{lines_so_far}
use Rattle.cept_report.proofs.phases.put_phases.Given as goal

-- so many turns were made, and their lines were put
abbrev pub invariant-loop-turn : goal.invariant-loop-turn
invariant-loop-turn g l = record {
  looks : l.blink.looks ≡ looks_of (core_of l.screen);
  phase : l.blink.phase ≡ l.turn % 6;
  put : Gains (g.T.Sink.state l.fn.sink) (lines_so_far (looks_of (core_of l.screen)) l.turn) (g.T.Sink.state l.sink);
  stays : (g.T.Sink.state l.sink).faults ≡ (g.T.Sink.state l.fn.sink).faults;
}
