use Rattle.cept_page.proofs.PageParts.{page_after-none, page_after-one, page_after-put}
use Rattle.cept_page.proofs.law.pages_are_drawn_part_by_part.Goals as goal

pub returns-clause-none : goal.returns-clause-none
returns-clause-none c = page_after-none

pub returns-clause-drawn : goal.returns-clause-drawn
returns-clause-drawn c = page_after-one

pub returns-clause-put : goal.returns-clause-put
returns-clause-put c = page_after-put
