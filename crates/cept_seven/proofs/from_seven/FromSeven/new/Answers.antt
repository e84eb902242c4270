use Rattle.cept_seven.specs.Eight.{is_shifted}
use Rattle.cept_seven.proofs.PushLemmas.{leads_nothing}
use Rattle.cept_seven.proofs.from_seven.FromSeven.new.Goals as goal

pub returns : goal.returns
unfolding is_shifted
returns c = leads_nothing
