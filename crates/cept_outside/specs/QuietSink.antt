-- A sink that counts its bytes and never fails. This project's own.
use Rattle.std.specs.Prelude.{ℕ, true, Some, None}
use Rattle.cept_outside.specs.declared.quiet_sink.QuietSink.{QuietSink}
use Rattle.cept_outside.specs.SinkState.{SinkState}

-- how many bytes were put, up to the greatest u64
abbrev pub quiet_sink_count : QuietSink → ℕ
quiet_sink_count sink = sink.count

-- it tells how many bytes were put, and not which; no flush fails, and it counts no fault
abbrev pub quiet_sink_state : QuietSink → SinkState
quiet_sink_state sink = record {
  bytes = None;
  count = Some sink.count;
  room = None;
  unflushed = sink.unflushed;
  flushes = sink.flushes;
  always_flushes = true;
  faults = 0;
}
