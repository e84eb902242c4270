use Rattle.cept_profile.proofs.MarkersInForce.{nearest}
use Rattle.cept_profile.proofs.law.serial_rows.the_nearest_marker_is_in_force.Goals as goal

pub returns : goal.returns
returns g c = nearest
