use Rattle.cept_profile.proofs.Laws
use Rattle.cept_profile.proofs.law.names_of_rows.looks_show_the_parts.Goals as goal

pub returns : goal.returns
returns c = Laws.part_of-seen
