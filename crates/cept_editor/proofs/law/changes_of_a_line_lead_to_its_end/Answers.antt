use Rattle.cept_editor.proofs.Laws
use Rattle.cept_editor.proofs.law.changes_of_a_line_lead_to_its_end.Goals as goal

pub returns : goal.returns
returns c = Laws.line_shown
