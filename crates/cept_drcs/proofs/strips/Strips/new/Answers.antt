use Rattle.cept_drcs.proofs.StripLemmas.{none_kept}
use Rattle.cept_drcs.proofs.strips.Strips.new.Goals as goal

pub invariant_of-result : goal.invariant_of-result
invariant_of-result c = none_kept
