use Rattle.cept_run.specs.Reporting.{plan_in}
use Rattle.std.proofs.Common.{length}
use Rattle.cept_editor.specs.Made.{output_of}
use Rattle.cept_generator.specs.Generated.{generated}
use Rattle.cept_run.proofs.GeneratedPages.{HasReadUpTo}
use Rattle.cept_run.proofs.generated.read_generated.Given as goal

-- the pieces so far were read
abbrev pub invariant-loop-piece : goal.invariant-loop-piece
invariant-loop-piece g l = HasReadUpTo (plan_in l.fn.decoder.reporter) (generated l.fn.number) l.generator l.bytes l.decoder
    (output_of (g.T.Sink.state l.fn.sink) (g.G.Glass.state l.fn.glass))
    (output_of (g.T.Sink.state l.sink) (g.G.Glass.state l.glass))

-- each piece leaves less of the page
abbrev pub decreases-loop-piece : goal.decreases-loop-piece
decreases-loop-piece g l = length l.generator
