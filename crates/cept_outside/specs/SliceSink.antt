-- A sink over a caller's slice, that fails only at a put into a full one. This project's own.
use Rattle.std.specs.Prelude.{ℕ, true, Some, List, length, take, drop, ◌≡◌, ◌≤◌}
use Rattle.cept_outside.specs.declared.slice_sink.Lent.{Ghosts}
use Rattle.cept_outside.specs.declared.slice_sink.SliceSink.{SliceSink}
use Rattle.cept_outside.specs.SinkState.{SinkState}

-- the first bytes of a slice were put, so many, and what stands after them is what stood there before
pub record IsFilled (before now : List ℕ) (count : ℕ) : Type 0 where
  pub room : length now ≡ length before
  pub within : count ≤ length now
  pub rest : drop count now ≡ drop count before

module _ {B : Type 0} {G : Ghosts B} where
  -- how many bytes it holds at most
  abbrev pub slice_sink_room : SliceSink B G → ℕ
  slice_sink_room sink = length sink.out.now

  -- it tells its bytes, the front of the slice, and its room, and no flush fails; its faults are the puts into a full slice
  abbrev pub slice_sink_state : SliceSink B G → SinkState
  slice_sink_state sink = record {
    bytes = Some (take sink.count sink.out.now);
    count = Some sink.count;
    room = Some (length sink.out.now);
    unflushed = sink.unflushed;
    flushes = sink.flushes;
    always_flushes = true;
    faults = sink.refused;
  }
