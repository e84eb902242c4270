use Rattle.std.proofs.Common.{length}
use Rattle.cept_generator.specs.Generated.{generated}
use Rattle.cept_run.proofs.GeneratedPages.{HasPutUpTo}
use Rattle.cept_run.proofs.generated.put_pieces.Given as goal

-- the pieces so far were put
abbrev pub invariant-loop-piece : goal.invariant-loop-piece
invariant-loop-piece g l = HasPutUpTo (generated l.fn.number) l.generator (g.T.Sink.state l.fn.sink) (g.T.Sink.state l.sink)

-- each piece leaves less of the page
abbrev pub decreases-loop-piece : goal.decreases-loop-piece
decreases-loop-piece g l = length l.generator
