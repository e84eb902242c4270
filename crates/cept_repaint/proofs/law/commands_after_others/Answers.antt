use Rattle.cept_repaint.proofs.CommandsInTurn as turn
use Rattle.cept_repaint.proofs.law.commands_after_others.Goals as goal

pub returns-clause-after : goal.returns-clause-after
returns-clause-after c = turn.state_after_all-append

pub returns-clause-in_reach : goal.returns-clause-in_reach
returns-clause-in_reach c = turn.rows_in_reach_of_all-append

pub returns-clause-renewed : goal.returns-clause-renewed
returns-clause-renewed c = turn.rows_renewed_by_all-append
