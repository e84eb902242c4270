-- as many bytes were pushed as the loop has seen, and the input hasn't ended
use Rattle.std.proofs.Common.{◌≡◌, false}
use Rattle.cept_parser_tests.proofs.sweep.watched.Given as goal

abbrev pub invariant-loop-byte : goal.invariant-loop-byte
invariant-loop-byte g l =
    record {
      counted : l.parser.place ≡ l.byte-index;
      running : l.parser.finished ≡ false;
      pushed : l.pushed ≡ l.byte-index;
    }
