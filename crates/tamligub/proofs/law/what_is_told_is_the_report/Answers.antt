use Rattle.tamligub.proofs.ReportsTold.{lines_in-page, lines_of-page}
use Rattle.tamligub.proofs.law.what_is_told_is_the_report.Goals as goal

pub returns-clause-said : goal.returns-clause-said
returns-clause-said c = lines_of-page

pub returns-clause-told : goal.returns-clause-told
returns-clause-told c = lines_in-page
