use Rattle.cept_live.proofs.LinesKept.{StandsAfter-ended, edited, made-by}
use Rattle.cept_live.proofs.law.lines_make_an_editor.Goals as goal

pub returns : goal.returns
returns c = record { start = StandsAfter-ended; line = made-by; all = edited }
