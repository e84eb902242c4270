use Rattle.cept_plot.proofs.Laws
use Rattle.cept_plot.proofs.law.a_set_of_points_is_drawn.Goals as goal

pub returns : goal.returns
returns c = Laws.drawn_on
