use Rattle.std.proofs.Common.{length}
use Rattle.cept_outside.proofs.PutSoFar.{IsPutSoFar}
use Rattle.cept_outside.proofs.putting.put_all.Given as goal

abbrev pub invariant-loop-rest : goal.invariant-loop-rest
invariant-loop-rest g l = IsPutSoFar l.text l.rest (g.T.Sink.state l.initial.sink) (g.T.Sink.state l.sink)

abbrev pub decreases-loop-rest : goal.decreases-loop-rest
decreases-loop-rest g l = length l.rest
