use Rattle.cept_profile.proofs.OldValues.{unwound-begun, unwound-none}
use Rattle.cept_profile.proofs.law.old_values.nothing_noted_unwinds_nothing.Goals as goal

pub returns : goal.returns
returns c = record { nothing = unwound-none; begun = unwound-begun }
