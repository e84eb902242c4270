use Rattle.std.proofs.Common.{◌≡◌}
use Rattle.cept_outside.specs.SinkState.{Gains}
use Rattle.cept_report.proofs.TextsInPieces.{pieces}
use Rattle.cept_report.proofs.ScreenLines.{line_at}
use Rattle.cept_report.proofs.put.put_cells.Given as goal

abbrev pub invariant-loop-n : goal.invariant-loop-n
invariant-loop-n g l = record {
  put : Gains (g.T.Sink.state l.fn.sink) (pieces (line_at (g.G.Glass.state l.glass).grid) 0 l.n)
      (g.T.Sink.state l.sink);
  stays : (g.T.Sink.state l.sink).faults ≡ (g.T.Sink.state l.fn.sink).faults;
}
