use Rattle.cept_codes.proofs.EqualityDecides.{c1_set_decides, way_decides, form_decides, command_decides}
use Rattle.cept_codes.proofs.EqualityDecides.{reason_decides, said_decides, item_decides, line_reason_decides}
use Rattle.cept_codes.proofs.law.equality.commands_compare_by_their_fields.Goals as goal

pub returns-clause-c1_set : goal.returns-clause-c1_set
returns-clause-c1_set c = c1_set_decides

pub returns-clause-way : goal.returns-clause-way
returns-clause-way c = way_decides

pub returns-clause-form : goal.returns-clause-form
returns-clause-form c = form_decides

pub returns-clause-command : goal.returns-clause-command
returns-clause-command c = command_decides

pub returns-clause-reason : goal.returns-clause-reason
returns-clause-reason c = reason_decides

pub returns-clause-said : goal.returns-clause-said
returns-clause-said c = said_decides

pub returns-clause-item : goal.returns-clause-item
returns-clause-item c = item_decides

pub returns-clause-line_reason : goal.returns-clause-line_reason
returns-clause-line_reason c = line_reason_decides
