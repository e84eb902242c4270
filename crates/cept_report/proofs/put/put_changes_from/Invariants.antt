use Rattle.std.proofs.Common.{◌≡◌, ◌-◌, ◌≤◌}
use Rattle.cept_profile.specs.Changes.{marked_looks_below}
use Rattle.cept_profile.specs.Look.{looks_of}
use Rattle.cept_profile.specs.State.{core_of}
use Rattle.cept_report.specs.Gathered.{GainsFront}
use Rattle.cept_report.specs.Text.{change_lines}
use Rattle.cept_report.proofs.put.put_changes_from.Given as goal

abbrev pub invariant-loop-at : goal.invariant-loop-at
invariant-loop-at g l = record {
  within : l.from ≤ 960;
  gathered : GainsFront (g.T.Sink.state l.fn.sink) (change_lines l.label
      (marked_looks_below l.marks (looks_of (core_of l.screen)) l.from)) (g.T.Sink.state l.sink) l.lines.items;
  stays : (g.T.Sink.state l.sink).faults ≡ (g.T.Sink.state l.fn.sink).faults;
}

abbrev pub decreases-loop-at : goal.decreases-loop-at
decreases-loop-at g l = 960 - l.from
