use Rattle.cept_profile.proofs.RowsOfFormats.{rows-control}
use Rattle.cept_profile.proofs.law.control_settings.rows_are_those_of_the_last_format.Goals as goal

pub returns : goal.returns
returns c = rows-control
