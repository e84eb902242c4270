use Rattle.cept_profile.proofs.Laws
use Rattle.cept_profile.proofs.law.looks_in_rows.the_page_and_the_edges_are_seen.Goals as goal

pub returns : goal.returns
returns c = Laws.looks_of-alike
