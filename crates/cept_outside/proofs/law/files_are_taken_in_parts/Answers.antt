use Rattle.cept_outside.proofs.Laws
use Rattle.cept_outside.proofs.law.files_are_taken_in_parts.Goals as goal

pub returns : goal.returns
returns c = record {
  left = Laws.left_after;
  all = Laws.all_taken;
}
