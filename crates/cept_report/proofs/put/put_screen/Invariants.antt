use Rattle.std.proofs.Common.{◌≡◌}
use Rattle.cept_outside.specs.SinkState.{Gains}
use Rattle.cept_report.specs.Screen.{row_line}
use Rattle.cept_report.proofs.TextsInPieces.{pieces}
use Rattle.cept_report.proofs.put.put_screen.Given as goal

abbrev pub invariant-loop-i : goal.invariant-loop-i
invariant-loop-i g l = record {
  put : Gains (g.T.Sink.state l.fn.sink) (pieces (row_line (g.G.Glass.state l.glass).grid) 1 l.i)
      (g.T.Sink.state l.sink);
  stays : (g.T.Sink.state l.sink).faults ≡ (g.T.Sink.state l.fn.sink).faults;
}
