use Rattle.std.proofs.Common.{arith}
use Rattle.cept_run.proofs.decoder.Decoder.make_edits.Goals as goal

pub invariant_of-self : goal.invariant_of-self
invariant_of-self g c = omega (arith, c.make_edits.ensures.counted, c.self.invariant)
