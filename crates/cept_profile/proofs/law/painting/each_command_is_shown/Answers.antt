use Rattle.cept_profile.proofs.Laws
use Rattle.cept_profile.proofs.law.painting.each_command_is_shown.Goals as goal

pub returns : goal.returns
returns c = Laws.grid_with_paints-changes
