use Rattle.std.proofs.Common.{◌≡◌, ◌-◌, ◌≤◌}
use Rattle.cept_flash.specs.Phases.{frame}
use Rattle.cept_outside.specs.SinkState.{Gains}
use Rattle.cept_profile.specs.Changes.{marked_looks_below}
use Rattle.cept_report.specs.Text.{change_lines}
use Rattle.cept_report.proofs.phases.put_marked.Given as goal

abbrev pub invariant-loop-at : goal.invariant-loop-at
invariant-loop-at g l = record {
  within : l.from ≤ 960;
  put : Gains (g.T.Sink.state l.fn.sink) (change_lines l.label
      (marked_looks_below l.marks (frame l.blink.looks l.blink.phase) l.from)) (g.T.Sink.state l.sink);
  stays : (g.T.Sink.state l.sink).faults ≡ (g.T.Sink.state l.fn.sink).faults;
}

abbrev pub decreases-loop-at : goal.decreases-loop-at
decreases-loop-at g l = 960 - l.from
