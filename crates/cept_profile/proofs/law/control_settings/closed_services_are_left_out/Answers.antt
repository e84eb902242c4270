use Rattle.cept_profile.proofs.ClosedServices.{outer_history-closed, outer_history-open}
use Rattle.cept_profile.proofs.law.control_settings.closed_services_are_left_out.Goals as goal

pub returns : goal.returns
returns c = record { closed = outer_history-closed; others = outer_history-open }
