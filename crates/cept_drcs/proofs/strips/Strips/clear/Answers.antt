use Rattle.cept_drcs.proofs.StripLemmas.{none_kept}
use Rattle.cept_drcs.proofs.strips.Strips.clear.Goals as goal

pub invariant_of-self : goal.invariant_of-self
invariant_of-self c = none_kept
