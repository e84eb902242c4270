use Rattle.std.proofs.Common.{refl}
use Rattle.cept_outside.proofs.PutSoFar.{IsPutSoFar-more}
use Rattle.cept_outside.proofs.putting.put_all.Goals as goal

pub loop-rest-preserved : goal.loop-rest-preserved
loop-rest-preserved g c =
    IsPutSoFar-more _ c.loop-rest.rest.now _ c.in-Ok.count _ _ _ refl c.loop-rest.invariant c.in-Ok.ensures.puts
    c.in-Ok.ensures.cause.stays
