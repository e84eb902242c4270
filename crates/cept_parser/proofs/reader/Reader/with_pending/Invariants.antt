-- the reader waits with the bytes that the loop has seen
use Rattle.std.proofs.Common.{◌≡◌, take, length}
use Rattle.cept_parser.specs.Waits.{IsWaiting}
use Rattle.cept_parser.proofs.reader.Reader.with_pending.Given as goal

abbrev pub invariant-loop-byte : goal.invariant-loop-byte
invariant-loop-byte l =
    (l.reader.context ≡ l.fn.context)
    × ((l.reader.bytes ≡ take l.byte-index l.fn.bytes) × IsWaiting l.reader (length l.reader.bytes))
