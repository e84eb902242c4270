use Rattle.cept_profile.proofs.OneMoreCommand.{control-one_more}
use Rattle.cept_profile.proofs.OneMoreState.{strokes_in-one_more, page-one_more}
use Rattle.cept_profile.proofs.law.one_more.one_more_command_by_parts.Goals as goal

pub returns : goal.returns
returns c = record { control = control-one_more; strokes = strokes_in-one_more; page = page-one_more }
