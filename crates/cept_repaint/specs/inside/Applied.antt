-- What private clauses say beside `Applied` (this project's own).
use Rattle.std.specs.Prelude.{ℕ, ◌≡◌, ◌≤◌, ◌+◌, Bool, List, [], Option}
use Rattle.cept_codes.specs.declared.command.Command.{Command}
use Rattle.cept_codes.specs.declared.look.Look.{Look}
use Rattle.cept_codes.specs.Place.{Place}
use Rattle.cept_profile.specs.Changes.{differences, grid_with_paints}
use Rattle.cept_profile.specs.Look.{looks_of}
use Rattle.cept_profile.specs.Strokes.{strokes_of}
use Rattle.cept_profile.specs.State.{State, core_of}
use Rattle.cept_profile.specs.OldValues.{OldValues, unwound}
use Rattle.cept_redraw.specs.Picture.{IsNotedAlong}
use Rattle.cept_redraw.specs.Renewed.{rows_renewed}
use Rattle.cept_repaint.specs.GlassState.{GlassState, Lists}
use Rattle.cept_repaint.specs.Applied.{rows_restored, IsWritten}

-- these paints were made, one after the other: each look at its place of the grid, and all of them in the list
pub record PaintsAll (old : GlassState) (paints : List (Place × Look)) (new : GlassState) : Type 0 where
  pub shown : new.grid ≡ grid_with_paints old.grid paints
  pub told : Lists old.paints paints new.paints

-- a command was written, and what its strokes change noted besides, where anything may be noted
pub record IsWrittenAlong (old : State) (command : Command) (new : State) (marked : List Bool) (from to : ℕ)
    (before after : Option OldValues) : Type 0 where
  pub written : IsWritten old command new marked from to
  pub noted : IsNotedAlong (strokes_of old.control command) before old.page after new.page

-- old values were put back: the state is that to which they unwind, exactly the places are marked whose look changes, and
-- no more rows were resolved than may look otherwise and no fewer than do
pub record IsPutBack (values : OldValues) (old new : State) (marked : List Bool) (from to : ℕ) : Type 0 where
  pub state : new ≡ unwound old values
  pub marks : marked ≡ differences (looks_of (core_of old)) (looks_of (core_of new))
  pub cost : to ≤ from + rows_restored values (core_of old) (core_of new)
  pub least : from + rows_renewed [] (looks_of (core_of old)) (looks_of (core_of new)) ≤ to
  pub at_most_24 : to ≤ from + 24
