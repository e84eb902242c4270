use Rattle.cept_profile.proofs.MarkersInForce.{serial_attributes-unmarked}
use Rattle.cept_profile.proofs.law.serial_rows.without_markers.Goals as goal

pub returns : goal.returns
returns c = serial_attributes-unmarked
