use Rattle.cept_plot.proofs.Laws
use Rattle.cept_plot.proofs.law.the_points_of_the_field_decide.Goals as goal

pub returns : goal.returns
returns c = record { valid = Laws.drawn_valid; same = Laws.drawn_same; point = Laws.point_after }
