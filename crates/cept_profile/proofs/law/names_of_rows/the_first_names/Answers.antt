use Rattle.cept_profile.proofs.Laws
use Rattle.cept_profile.proofs.law.names_of_rows.the_first_names.Goals as goal

pub returns : goal.returns
returns c = Laws.names_at-first
