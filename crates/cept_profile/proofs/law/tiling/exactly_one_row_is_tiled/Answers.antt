use Rattle.cept_profile.proofs.Laws
use Rattle.cept_profile.proofs.law.tiling.exactly_one_row_is_tiled.Goals as goal

pub returns : goal.returns
returns c = record {
  one = Laws.IsTiledRow-tiled_row;
  only = Laws.IsTiledRow-only;
}
