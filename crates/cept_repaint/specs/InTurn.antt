-- Commands one after the other (this project's own): the state after them, and the rows that may or must be resolved.
use Rattle.std.specs.Prelude.{ℕ, ◌+◌, List, [], ◌∷◌}
use Rattle.cept_codes.specs.declared.command.Command.{Command}
use Rattle.cept_profile.specs.Reach.{rows_in_reach}
use Rattle.cept_profile.specs.State.{State, state_after}
use Rattle.cept_repaint.specs.Applied.{rows_renewed_by}

-- a state after commands, one after the other
unfoldable pub state_after_all : State → List Command → State
state_after_all s [] = s
state_after_all s (c ∷ cs) = state_after_all (state_after s c) cs

-- how many rows commands may resolve, each after the ones before it
unfoldable pub rows_in_reach_of_all : State → List Command → ℕ
rows_in_reach_of_all s [] = 0
rows_in_reach_of_all s (c ∷ cs) = rows_in_reach s c + rows_in_reach_of_all (state_after s c) cs

-- how many rows commands renew, each after the ones before it: these must be resolved
unfoldable pub rows_renewed_by_all : State → List Command → ℕ
rows_renewed_by_all s [] = 0
rows_renewed_by_all s (c ∷ cs) = rows_renewed_by s c + rows_renewed_by_all (state_after s c) cs
