-- Commands that were applied to a screen one after the other, and painted (this project's own).
use Rattle.std.specs.Prelude.{ℕ, ◌≡◌, ◌≤◌, ◌+◌, List, [], ◌∷◌, ◌++◌}
use Rattle.cept_codes.specs.declared.command.Command.{Command}
use Rattle.cept_codes.specs.declared.look.Look.{Look}
use Rattle.cept_codes.specs.Place.{Place}
use Rattle.cept_profile.specs.Changes.{changes_between, grid_with_paints}
use Rattle.cept_profile.specs.Look.{looks_of}
use Rattle.cept_profile.specs.State.{State, core_of, state, state_after}
use Rattle.cept_profile.specs.Valid.{AllValid}
use Rattle.cept_repaint.specs.InTurn.{rows_in_reach_of_all, rows_renewed_by_all, state_after_all}
use Rattle.cept_repaint.specs.GlassState.{GlassState, Lists}

-- the places whose looks they change, each command's after those of the ones before it, each with its new look
unfoldable pub changes_of_all : State → List Command → List (Place × Look)
changes_of_all s [] = []
changes_of_all s (c ∷ cs) =
    changes_between (looks_of (core_of s)) (looks_of (core_of (state_after s c))) ++ changes_of_all (state_after s c) cs

-- the commands were applied to a screen one after the other, and what each changes was painted before the next; no more
-- rows were resolved than are in reach, and no fewer than are renewed
pub record ArePaintedInTurn (commands : List Command) (old new : State) (before now : GlassState) (from to : ℕ) : Type 0
  where
    pub after : new ≡ state_after_all old commands
    -- after whatever commands the state stood
    pub goes_on : (history : List Command) → AllValid history → old ≡ state history → new ≡ state (history ++ commands)
    pub shown : now.grid ≡ grid_with_paints before.grid (changes_of_all old commands)
    pub told : Lists before.paints (changes_of_all old commands) now.paints
    pub cost : to ≤ from + rows_in_reach_of_all old commands
    pub least : from + rows_renewed_by_all old commands ≤ to
