use Rattle.cept_seven.proofs.MoreLemmas.{seven_begins, eight_begins, front_accepted}
use Rattle.cept_seven.proofs.law.forms_go_on.Goals as goal

pub returns : goal.returns
returns c = record { seven = seven_begins; eight = eight_begins; accepted = front_accepted }
