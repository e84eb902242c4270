-- Valid commands that were painted in turn (this project's own).
use Rattle.std.specs.Prelude.{ℕ, List}
use Rattle.cept_codes.specs.declared.command.Command.{Command}
use Rattle.cept_profile.specs.State.{State}
use Rattle.cept_profile.specs.Valid.{AllValid}
use Rattle.cept_repaint.specs.GlassState.{GlassState}
use Rattle.cept_plot.specs.Painted.{ArePaintedInTurn}

-- each of the commands is valid, so that more may follow, and they were painted in turn
pub record ArePaintedAndValid (commands : List Command) (old new : State) (before now : GlassState) (from to : ℕ) : Type 0
  where
    pub valid : AllValid commands
    pub in_turn : ArePaintedInTurn commands old new before now from to
