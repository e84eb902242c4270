use Rattle.cept_profile.proofs.Laws
use Rattle.cept_profile.proofs.law.tiling.exactly_one_table_is_tiled.Goals as goal

pub returns : goal.returns
returns c = record {
  one = Laws.IsTiled-tiled_table;
  only = Laws.IsTiled-only;
  beneath = Laws.tiled_row-beneath;
}
