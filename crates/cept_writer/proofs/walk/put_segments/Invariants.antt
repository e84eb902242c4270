use Rattle.std.proofs.Common.{◌≡◌, ◌<◌}
use Rattle.cept_codes.specs.Cell.{IsValidCell}
use Rattle.cept_outside.specs.SinkState.{Gains}
use Rattle.cept_parser.specs.Spelling.{spellings}
use Rattle.cept_writer.specs.PageCommands.{cell_numbered}
use Rattle.cept_writer.specs.SegmentPieces.{copies_before, link_to, pieces_below}
use Rattle.cept_writer.proofs.walk.put_segments.Given as goal

abbrev pub invariant-loop-n : goal.invariant-loop-n
invariant-loop-n g l = record {
  put : Gains (g.T.Sink.state l.fn.sink) (spellings (pieces_below l.screen.page.cells l.n)) (g.T.Sink.state l.sink);
  stays : (g.T.Sink.state l.sink).faults ≡ (g.T.Sink.state l.fn.sink).faults;
  cell : l.n < 960 → l.cell ≡ cell_numbered l.screen.page.cells l.n;
  valid : IsValidCell l.cell;
  before : l.before ≡ link_to l.screen.page.cells l.n;
  copies : l.copies ≡ copies_before l.screen.page.cells l.n;
}
