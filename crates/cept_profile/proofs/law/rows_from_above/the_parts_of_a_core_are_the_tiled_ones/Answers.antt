use Rattle.cept_profile.proofs.Laws
use Rattle.cept_profile.proofs.law.rows_from_above.the_parts_of_a_core_are_the_tiled_ones.Goals as goal

pub returns : goal.returns
returns c = record {
  tiled = Laws.tiled_parts;
  only = Laws.tiled_parts-only;
  look = Laws.look-by_origin;
  origin = Laws.origin-on_screen;
}
