-- A sink that hands its bytes on to a writer, and holds some of them back for a while. This project's own.
use Rattle.std.specs.Prelude.{◌≡◌, ℕ, ◌-◌, false, List, [], Option, None, nat_lt, slice_range, ◌||◌, Result, OnOk}
use Rattle.std.specs.Io.KnownBytes.{Keeps, append_known}
use Rattle.cept_outside.specs.declared.std_sink.StdSink.{StdSink}
use Rattle.cept_outside.specs.SinkState.{SinkState}

module _ {W : Type 0} where
  -- it tells no bytes; unflushed is what is held back, and what the writer didn't flush
  abbrev pub std_sink_state : StdSink W → SinkState
  std_sink_state sink = record {
    bytes = None;
    count = None;
    room = None;
    unflushed = nat_lt sink.sent sink.end || sink.writer.unflushed;
    flushes = sink.writer.flushes;
    always_flushes = false;
    faults = sink.writer.faults.count;
  }

  -- the bytes that weren't handed on
  abbrev pub held_bytes : StdSink W → List ℕ
  held_bytes sink = slice_range sink.held sink.sent sink.end

  -- how many more bytes it can hold
  abbrev pub free_room : StdSink W → ℕ
  free_room sink = 4096 - sink.end

  -- the writer's bytes, where it tells them, and then those held back
  abbrev pub written_and_held : (W → Option (List ℕ)) → StdSink W → Option (List ℕ)
  written_and_held contents sink = append_known (contents sink.writer.out) (held_bytes sink)

-- what is held back is handed on: of what was put nothing is lost, and after a success nothing is held back
pub record IsHandedOn {W X E : Type 0} (contents : W → Option (List ℕ)) (before after : StdSink W) (result : Result X E)
    : Type 0 where
  pub kept : Keeps (written_and_held contents before) (written_and_held contents after)
  pub all : OnOk result (held_bytes after ≡ [])
