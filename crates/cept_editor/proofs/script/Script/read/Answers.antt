use Rattle.std.proofs.Common.{List, ℕ, subst}
use Rattle.cept_editor.specs.Script.{edits, AreValidEdits}
use Rattle.cept_editor.proofs.KeptLines.{valid_edits}
use Rattle.cept_editor.proofs.script.Script.read.Goals as goal

pub returns-clause-valid : goal.returns-clause-valid
returns-clause-valid c =
    subst (λ (bytes : List ℕ). AreValidEdits (edits bytes)) c.as_slice-2.ensures.value
    (valid_edits _ _ c.in_ok-keep_lines.ensures.orders)
