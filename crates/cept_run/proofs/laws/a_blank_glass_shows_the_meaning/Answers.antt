use Rattle.cept_run.proofs.PaintedItems.{blank_painted}
use Rattle.cept_run.proofs.laws.a_blank_glass_shows_the_meaning.Goals as goal

pub returns : goal.returns
returns c = blank_painted
