-- A command applied to a screen, and a change of a screen repainted (this project's own).
use Rattle.std.specs.Prelude.{ℕ, ◌≡◌, ◌≤◌, ◌+◌, Bool, List, [], ◌∷◌, ◌++◌}
use Rattle.cept_codes.specs.declared.command.Command.{Command}
use Rattle.cept_profile.specs.Changes.{changes_between, differences, grid_with_paints}
use Rattle.cept_profile.specs.Edges.{edges_of_core}
use Rattle.cept_profile.specs.Look.{looks_of}
use Rattle.cept_profile.specs.Reach.{rows_in_reach}
use Rattle.cept_profile.specs.Strokes.{strokes_of}
use Rattle.cept_profile.specs.State.{Core, State, core_of, state, state_after}
use Rattle.cept_profile.specs.Valid.{AllValid}
use Rattle.cept_profile.specs.OldValues.{OldValues}
use Rattle.cept_redraw.specs.Renewed.{rows_renewed}
use Rattle.cept_redraw.specs.Restored.{rows_unwound}
use Rattle.cept_repaint.specs.GlassState.{GlassState, Lists}

-- how many rows a command renews in this state
abbrev pub rows_renewed_by : State → Command → ℕ
rows_renewed_by s command =
    rows_renewed (strokes_of s.control command) (looks_of (core_of s)) (looks_of (core_of (state_after s command)))

-- how many rows may have to be resolved between two cores where old values are put back
abbrev pub rows_restored : OldValues → Core → Core → ℕ
rows_restored old before after =
    rows_unwound old (edges_of_core before) (edges_of_core after) (looks_of before) (looks_of after)

-- after whatever commands the state stood, it stands after these and one more
abbrev pub GoesOn : State → Command → State → Type 0
GoesOn old command new =
    (history : List Command) → AllValid history → old ≡ state history → new ≡ state (history ++ command ∷ [])

-- a command was written: the state is that after it, exactly the places are marked whose look changes, and no more rows
-- were resolved than are in its reach and no fewer than it renews
pub record IsWritten (old : State) (command : Command) (new : State) (marked : List Bool) (from to : ℕ) : Type 0 where
  pub after : new ≡ state_after old command
  pub marks : marked ≡ differences (looks_of (core_of old)) (looks_of (core_of new))
  pub cost : to ≤ from + rows_in_reach old command
  pub least : from + rows_renewed_by old command ≤ to
  pub at_most_24 : to ≤ from + 24

-- from one state to another exactly the places whose look changes were marked, and each was painted once, in reading
-- order, with its new look
pub record IsRepainted (old new : State) (marked : List Bool) (before now : GlassState) : Type 0 where
  pub marks : marked ≡ differences (looks_of (core_of old)) (looks_of (core_of new))
  pub shown : now.grid
      ≡ grid_with_paints before.grid (changes_between (looks_of (core_of old)) (looks_of (core_of new)))
  pub told : Lists before.paints (changes_between (looks_of (core_of old)) (looks_of (core_of new))) now.paints

-- a command was applied, what it changes repainted, and no more rows resolved than are in its reach and no fewer than it
-- renews
pub record IsApplied (old : State) (command : Command) (new : State) (marked : List Bool) (before now : GlassState)
    (from to : ℕ) : Type 0 where
  pub goes_on : GoesOn old command new
  pub after : new ≡ state_after old command
  pub repainted : IsRepainted old new marked before now
  pub cost : to ≤ from + rows_in_reach old command
  pub least : from + rows_renewed_by old command ≤ to
  pub at_most_24 : to ≤ from + 24
