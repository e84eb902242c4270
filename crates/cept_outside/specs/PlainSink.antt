-- A sink in memory, of a fixed room, that fails only at a put into a full list. This project's own.
use Rattle.std.specs.Prelude.{ℕ, true, List, Some, length}
use Rattle.cept_outside.specs.declared.plain_sink.PlainSink.{PlainSink}
use Rattle.cept_outside.specs.SinkState.{SinkState}

-- the bytes that it holds
abbrev pub plain_sink_bytes : PlainSink → List ℕ
plain_sink_bytes sink = sink.bytes.items

-- how many it holds at most
abbrev pub plain_sink_room : PlainSink → ℕ
plain_sink_room sink = sink.room

-- it tells its bytes and its room, and no flush fails; its faults are the puts into a full list
abbrev pub plain_sink_state : PlainSink → SinkState
plain_sink_state sink = record {
  bytes = Some sink.bytes.items;
  count = Some (length sink.bytes.items);
  room = Some sink.room;
  unflushed = sink.unflushed;
  flushes = sink.flushes;
  always_flushes = true;
  faults = sink.refused;
}
