-- What a run has from outside: a shelf to read, a sink to put into, and a glass to paint on. This project's own.
use Rattle.std.specs.Prelude.{◌≡◌, ◌⊎◌, ◌<◌, ◌≤◌, ℕ, false, true, List, length, take}
use Rattle.std.specs.Io.KnownBytes.{append_known}
use Rattle.cept_outside.specs.ShelfState.{ShelfState}
use Rattle.cept_outside.specs.Causes.{Rose}
use Rattle.cept_outside.specs.SinkState.{SinkState, Gains, GainsPart, count_after, one_more}
use Rattle.cept_repaint.specs.GlassState.{GlassState}
use Rattle.cept_editor.specs.Made.{Output}

-- a shelf, a sink and a glass
pub record Outside : Type 0 where
  pub shelf : ShelfState
  pub sink : SinkState
  pub glass : GlassState

-- these three
abbrev pub outside_of : ShelfState → SinkState → GlassState → Outside
outside_of shelf sink glass = record { shelf = shelf; sink = sink; glass = glass }

-- where it puts and paints
abbrev pub output : Outside → Output
output o = record { sink = o.sink; glass = o.glass }

-- all bytes of what is selected were taken, these, up to where the shelf said that there are no more
pub record AreAllTaken (bytes : List ℕ) (shelf : ShelfState) : Type 0 where
  pub taken : shelf.taken ≡ length bytes
  pub ended : shelf.ended ≡ true

-- a text was put whole and then flushed, once
pub record PutsWhole (text : List ℕ) (before after : SinkState) : Type 0 where
  pub put : after.bytes ≡ append_known before.bytes text
  pub counted : after.count ≡ count_after before.count (length text)
  pub room : after.room ≡ before.room
  pub flushed : after.unflushed ≡ false
  pub flushes : after.flushes ≡ one_more before.flushes
  pub stays : after.faults ≡ before.faults

-- a front of a text was put, and not the whole where no flush fails
abbrev pub PutsFront : List ℕ → SinkState → SinkState → Type 0
PutsFront text before after = (size : ℕ) × Gains before (take size text) after
    × ((size < length text) ⊎ (before.always_flushes ≡ false))

-- a text was put, a part of it or all, and the sink failed
pub record PutsUnflushed (text : List ℕ) (before after : SinkState) : Type 0 where
  pub cause : Rose before.faults after.faults
  pub later : before.faults ≤ after.faults
  pub put : GainsPart before text after ⊎ (Gains before text after × (before.always_flushes ≡ false))
