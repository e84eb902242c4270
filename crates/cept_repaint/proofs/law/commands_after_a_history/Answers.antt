use Rattle.cept_repaint.proofs.CommandsInTurn as turn
use Rattle.cept_repaint.proofs.law.commands_after_a_history.Goals as goal

pub returns-clause-state : goal.returns-clause-state
returns-clause-state c = turn.state-after_all

pub returns-clause-valid : goal.returns-clause-valid
returns-clause-valid c = turn.IsValidState-state_after_all
