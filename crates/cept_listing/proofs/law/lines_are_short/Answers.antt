use Rattle.cept_listing.proofs.Lengths.{any_line_short, page_line_short}
use Rattle.cept_listing.proofs.law.lines_are_short.Goals as goal

pub returns-clause-any : goal.returns-clause-any
returns-clause-any c = any_line_short

pub returns-clause-of_a_page : goal.returns-clause-of_a_page
returns-clause-of_a_page c = page_line_short
