use Rattle.cept_run.specs.Reporting.{Plan}
use Rattle.std.proofs.Common.{◌≡◌, ◌+◌, ℕ, false, List, ◌++◌, take}
use Rattle.cept_editor.specs.Made.{Output, output_of}
use Rattle.cept_run.specs.Reporting.{HasRead}
use Rattle.cept_run.proofs.decoder.Decoder.read_piece.Given as goal

-- the bytes so far were read
abbrev pub invariant-loop-byte : goal.invariant-loop-byte
invariant-loop-byte g l = record {
  place : l.self.parser.place ≡ l.fn.self.parser.place + l.byte-index;
  running : l.self.parser.finished ≡ false;
  read : (plan : Plan) (bytes : List ℕ) (start : Output)
      → HasRead plan l.fn.self bytes start (output_of (g.T.Sink.state l.fn.sink) (g.G.Glass.state l.fn.glass))
      → HasRead plan l.self (bytes ++ take l.byte-index l.piece) start
      (output_of (g.T.Sink.state l.sink) (g.G.Glass.state l.glass));
}
