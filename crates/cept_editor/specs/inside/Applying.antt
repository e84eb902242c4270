-- What private clauses say beside `Applying` (this project's own).
use Rattle.std.specs.Prelude.{◌≡◌, ℕ, ◌+◌, Bool, List, [], ◌∷◌, ◌++◌, length, take}
use Rattle.std.specs.Prelude.{Result, OnOk, OnErr}
use Rattle.cept_codes.specs.declared.command.Command.{Command}
use Rattle.cept_profile.specs.State.{State, state}
use Rattle.cept_profile.specs.Valid.{AllValid}
use Rattle.cept_repaint.specs.Applied.{IsApplied}
use Rattle.cept_editor.specs.Made.{Output, IsMade, AreMade, AreCutOff}
use Rattle.cept_editor.specs.Stepping.{event_from, edit_events}

-- ---- one command

-- a command was applied, after whatever commands: what it changes was painted, and then its lines were put where they are
-- listed, or a part of them
pub record AppliesOne {X E : Type 0} (listed : Bool) (line : ℕ) (command : Command) (old : State) (before : Output)
    (result : Result X E) (new : State) (after : Output) (marks : List Bool) (from to : ℕ) : Type 0 where
  pub applied : IsApplied old command new marks before.glass after.glass from to
  pub made : (history : List Command) → AllValid history → old ≡ state history
      → IsMade (event_from listed line history (history ++ command ∷ [])) before result after

-- what is listed still goes to the same sink, and the marks are still kept in the same place
pub record HoldsSame {S M : Type 0} (old_sink : S) (old_marks : M) (new_sink : S) (new_marks : M) : Type 0 where
  pub sink : new_sink ≡ old_sink
  pub marks : new_marks ≡ old_marks

-- ---- several commands

-- commands were applied after others
pub record HasApplied (listed : Bool) (line : ℕ) (history commands : List Command) (before : Output) (new : State)
    (after : Output) : Type 0 where
  pub is : new ≡ state (history ++ commands)
  pub made : AreMade (edit_events listed line history commands) before after

-- the sink failed at one of them: the others after it weren't applied
pub record HasStopped (listed : Bool) (line : ℕ) (history commands : List Command) (before : Output) (new : State)
    (after : Output) : Type 0 where
  pub off : AreCutOff (edit_events listed line history commands) before after
  pub is : new ≡ state (history ++ take (length off.done + 1) commands)

-- one or the other, after whatever commands
pub record AppliesAll {X E : Type 0} (listed : Bool) (line : ℕ) (commands : List Command) (old : State)
    (before : Output) (result : Result X E) (new : State) (after : Output) : Type 0 where
  pub applied : OnOk result ((history : List Command) → AllValid history → old ≡ state history
      → HasApplied listed line history commands before new after)
  pub stopped : OnErr result ((history : List Command) → AllValid history → old ≡ state history
      → HasStopped listed line history commands before new after)
