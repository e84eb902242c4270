-- A command between edits (own).
use Rattle.std.specs.Prelude.{ℕ, Bool, List}
use Rattle.cept_codes.specs.declared.command.Command.{Command}
use Rattle.cept_profile.specs.State.{State}
use Rattle.cept_repaint.specs.Applied.{IsApplied}
use Rattle.cept_repaint.specs.GlassState.{GlassState}
use Rattle.cept_undo.specs.Past.{Edits, StaysUnbegun}

-- a command was applied between edits, which is undone with the latest of them, and none can be redone
pub record IsAppliedOutside (old : Edits) (before : State) (command : Command) (new : Edits) (after : State)
    (marked : List Bool) (glass_before glass_after : GlassState) (from to : ℕ) : Type 0 where
  pub edits : StaysUnbegun old before new after
  pub applied : IsApplied before command after marked glass_before glass_after from to
