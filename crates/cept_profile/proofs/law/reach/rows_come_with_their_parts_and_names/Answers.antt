use Rattle.cept_profile.proofs.Laws
use Rattle.cept_profile.proofs.law.reach.rows_come_with_their_parts_and_names.Goals as goal

pub returns : goal.returns
returns c = record {
  parts = Laws.part_at-unreached;
  names = Laws.names_at-unreached;
  redefined = Laws.is_redefined-unreached;
}
