use Rattle.cept_editor.proofs.MadeEvents.{one_more_made, one_more_cut}
use Rattle.cept_editor.proofs.law.one_more_event_is_made.Goals as goal

pub returns : goal.returns
returns g c = record { made = one_more_made; cut = one_more_cut }
