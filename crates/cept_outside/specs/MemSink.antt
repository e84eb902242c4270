-- A sink in memory, of a fixed room, whose calls fail where they are told to and at puts into a full list. This
-- project's own.
use Rattle.std.specs.Prelude.{◌≡◌, ℕ, ◌+◌, ◌-◌, ◌^◌, min, false, List}
use Rattle.cept_outside.specs.declared.mem_sink.MemSink.{MemSink}
use Rattle.cept_outside.specs.Calls.{faults_of}
use Rattle.cept_outside.specs.PlainSink.{plain_sink_room, plain_sink_state}
use Rattle.cept_outside.specs.SinkState.{SinkState}

-- how many bytes it holds at most
abbrev pub mem_sink_room : MemSink → ℕ
mem_sink_room sink = plain_sink_room sink.list

-- how many calls were made
abbrev pub mem_sink_count : MemSink → ℕ
mem_sink_count sink = sink.calls.count

-- the numbers of the calls that are to fail
abbrev pub mem_sink_numbers : MemSink → List ℕ
mem_sink_numbers sink = sink.calls.numbers.items

-- how many puts found it full
abbrev pub mem_sink_refused : MemSink → ℕ
mem_sink_refused sink = sink.list.refused

-- it tells its bytes and its room, and its flush may fail; its faults are the numbers that are reached, and the puts into
-- a full list
abbrev pub mem_sink_state : MemSink → SinkState
mem_sink_state sink = record (plain_sink_state sink.list) {
  always_flushes = false;
  faults = faults_of sink.calls.numbers.items sink.calls.count sink.list.refused;
}

-- a put or a flush: it is counted, and what the sink was told stays
pub record IsCountedPut (before after : MemSink) : Type 0 where
  pub room : mem_sink_room after ≡ mem_sink_room before
  pub count : mem_sink_count after ≡ min (mem_sink_count before + 1) (2 ^ 64 - 1)
  pub numbers : mem_sink_numbers after ≡ mem_sink_numbers before
