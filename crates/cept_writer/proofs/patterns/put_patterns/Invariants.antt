use Rattle.std.proofs.Common.{◌≡◌}
use Rattle.cept_outside.specs.SinkState.{Gains}
use Rattle.cept_parser.specs.Spelling.{spellings}
use Rattle.cept_writer.specs.EntryPieces.{last_below, pattern_numbered, pattern_piece, pieces_in_turn}
use Rattle.cept_writer.specs.inside.EntryPieces.{last_pattern}
use Rattle.cept_writer.proofs.patterns.put_patterns.Given as goal

abbrev pub invariant-loop-i : goal.invariant-loop-i
invariant-loop-i g l = record {
  put : Gains (g.T.Sink.state l.fn.sink)
      (spellings (pieces_in_turn pattern_piece (pattern_numbered l.screen.page.patterns) l.i)) (g.T.Sink.state l.sink);
  stays : (g.T.Sink.state l.sink).faults ≡ (g.T.Sink.state l.fn.sink).faults;
  last : l.last ≡ last_pattern (last_below (pattern_numbered l.screen.page.patterns) l.i);
}
