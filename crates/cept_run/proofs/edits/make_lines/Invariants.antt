use Rattle.std.proofs.Common.{List, take}
use Rattle.cept_codes.specs.declared.command.Command.{Command}
use Rattle.cept_editor.specs.Kept.{none_kept, StandsAfter}
use Rattle.cept_editor.specs.Made.{output_of}
use Rattle.cept_run.specs.Reporting.{HasMadeLines}
use Rattle.cept_run.proofs.edits.make_lines.Given as goal

-- the edit lines so far were made
abbrev pub invariant-loop-k : goal.invariant-loop-k
invariant-loop-k g l = (page : List Command) → StandsAfter l.fn.editor page none_kept
    → HasMadeLines l.listed page (take l.k l.script) l.editor
    (output_of (g.T.Sink.state l.fn.sink) (g.G.Glass.state l.fn.glass))
    (output_of (g.T.Sink.state l.sink) (g.G.Glass.state l.glass))
