use Rattle.cept_drcs.proofs.Laws
use Rattle.cept_drcs.proofs.law.units.pixels_are_bits_of_lines.Goals as goal

pub returns : goal.returns
returns c = Laws.pixel_drawn
