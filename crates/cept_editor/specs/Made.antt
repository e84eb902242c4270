-- Events that were made: their texts put, and their changes painted. This project's own.
use Rattle.std.specs.Prelude.{◌≡◌, ℕ, ◌<◌, ◌≤◌, List, [], ◌∷◌, ◌++◌, length, take, Result}
use Rattle.std.specs.List.{AllByRecursion}
use Rattle.cept_outside.specs.Causes.{Rose}
use Rattle.cept_outside.specs.SinkState.{SinkState, Gains, PutsText}
use Rattle.cept_profile.specs.Changes.{grid_with_paints}
use Rattle.cept_repaint.specs.GlassState.{GlassState, Lists}
use Rattle.cept_editor.specs.Events.{Event, report, paints}

-- where a run puts and paints
pub record Output : Type 0 where
  pub sink : SinkState
  pub glass : GlassState

-- this sink and this glass
abbrev pub output_of : SinkState → GlassState → Output
output_of sink glass = record { sink = sink; glass = glass }

-- no event changes which commands remain
abbrev pub AreStill : List Event → Type 0
AreStill events = AllByRecursion (λ e. e.after ≡ e.before) events

-- the changes of these events were painted
pub record ArePainted (events : List Event) (before after : GlassState) : Type 0 where
  -- in their order, each place once for each event
  pub listed : Lists before.paints (paints events) after.paints
  -- the glass shows what it showed, with these paints over it
  pub over : after.grid ≡ grid_with_paints before.grid (paints events)
  -- where no event changes which commands remain, it wasn't touched
  pub untouched : AreStill events → after ≡ before

-- one event was made: its changes painted, and its text put, whole or in part
pub record IsMade {X E : Type 0} (event : Event) (before : Output) (result : Result X E) (after : Output) : Type 0 where
  pub puts : PutsText before.sink event.text result after.sink
  pub painted : ArePainted (event ∷ []) before.glass after.glass

-- these events were made: all their texts put, and all their changes painted
pub record AreMade (events : List Event) (before after : Output) : Type 0 where
  pub put : Gains before.sink (report events) after.sink
  pub painted : ArePainted events before.glass after.glass

-- the sink failed at one of these events: the texts before it were put, and of its own a part, from its front on, and
-- not the whole. It was painted, and those before it
pub record AreCutOff (events : List Event) (before after : Output) : Type 0 where
  pub done : List Event
  pub cut : Event
  pub rest : List Event
  pub split : events ≡ done ++ cut ∷ rest
  pub size : ℕ
  pub short : size < length cut.text
  pub put : Gains before.sink (report done ++ take size cut.text) after.sink
  pub painted : ArePainted (done ++ cut ∷ []) before.glass after.glass
  -- the sink counted a fault, and its count never falls
  pub cause : Rose before.sink.faults after.sink.faults
  pub later : before.sink.faults ≤ after.sink.faults
