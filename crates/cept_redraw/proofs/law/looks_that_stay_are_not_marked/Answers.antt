use Rattle.cept_redraw.proofs.Refreshed.{differences_none}
use Rattle.cept_redraw.proofs.RowsRenewed.{rows_renewed-none}
use Rattle.cept_redraw.proofs.Unmarked.{is_marked-no_marks}
use Rattle.cept_redraw.proofs.law.looks_that_stay_are_not_marked.Goals as goal

pub returns-clause-marks : goal.returns-clause-marks
returns-clause-marks c = differences_none

pub returns-clause-none : goal.returns-clause-none
returns-clause-none c = is_marked-no_marks

pub returns-clause-rows : goal.returns-clause-rows
returns-clause-rows c = rows_renewed-none
