use Rattle.cept_profile.proofs.MarkersInForce.{held_sign-valid, serial_attributes-valid}
use Rattle.cept_profile.proofs.law.serial_rows.serial_attributes_are_valid.Goals as goal

pub returns : goal.returns
returns c = record { attributes = serial_attributes-valid; sign = held_sign-valid }
