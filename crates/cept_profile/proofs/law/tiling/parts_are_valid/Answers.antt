use Rattle.cept_profile.proofs.Laws
use Rattle.cept_profile.proofs.law.tiling.parts_are_valid.Goals as goal

pub returns : goal.returns
returns c = record {
  valid = Laws.IsValidPart-part_at;
  origin = Laws.OnScreen-origin;
}
