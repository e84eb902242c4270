use Rattle.cept_profile.proofs.MarkersInForce.{held_sign-alike, serial_attributes-alike}
use Rattle.cept_profile.proofs.law.serial_rows.cells_to_the_right_count_for_nothing.Goals as goal

pub returns : goal.returns
returns c = record { attributes = serial_attributes-alike; sign = held_sign-alike }
