use Rattle.cept_run.proofs.ShownEvents.{shown_after, shown_at_cut}
use Rattle.cept_run.proofs.laws.a_blank_glass_shows_each_event.Goals as goal

pub returns : goal.returns
returns c = record { each = shown_after; cut = shown_at_cut }
