use Rattle.cept_editor.proofs.Laws
use Rattle.cept_editor.proofs.law.edit_lines_lead_to_what_remains.Goals as goal

pub returns : goal.returns
returns c = Laws.editor_after-steps
