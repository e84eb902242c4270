use Rattle.cept_profile.proofs.CarriedRows.{row_pen_after-carried, row_pen_after-shifted}
use Rattle.cept_profile.proofs.law.carried_rows.attributes_go_with_carried_rows.Goals as goal

pub returns : goal.returns
returns c = record { carried = row_pen_after-carried; stay = row_pen_after-shifted }
