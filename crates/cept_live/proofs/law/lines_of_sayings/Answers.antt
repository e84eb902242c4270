use Rattle.cept_live.proofs.LinesOfItems.{lines_of-command, lines_of-items, lines_of-refusal}
use Rattle.cept_live.proofs.law.lines_of_sayings.Goals as goal

pub returns-clause-command : goal.returns-clause-command
returns-clause-command c = lines_of-command

pub returns-clause-refusal : goal.returns-clause-refusal
returns-clause-refusal c = lines_of-refusal

pub returns-clause-items : goal.returns-clause-items
returns-clause-items c = lines_of-items
