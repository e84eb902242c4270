use Rattle.cept_run.proofs.DrawnPages.{page_drawn}
use Rattle.cept_run.proofs.laws.a_drawing_is_drawn_on_its_page.Goals as goal

pub returns : goal.returns
returns c = page_drawn
