use Rattle.cept_profile.proofs.Laws
use Rattle.cept_profile.proofs.law.one_more.one_more_command.Goals as goal

pub returns : goal.returns
returns c = Laws.state-one_more
