use Rattle.std.proofs.Common.{length, ap, arith}
use Rattle.cept_parser.proofs.WaitingLemmas.{waits_small}
use Rattle.cept_parser.proofs.parser.Parser.pending_bytes.Goals as goal

pub returns-clause-few : goal.returns-clause-few
returns-clause-few c =
    let w = waits_small _ _ _ c.self.invariant.waits in
    omega (arith, ap length c.as_slice.ensures.value)
