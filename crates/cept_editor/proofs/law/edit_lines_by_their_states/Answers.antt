use Rattle.cept_editor.proofs.Laws
use Rattle.cept_editor.proofs.law.edit_lines_by_their_states.Goals as goal

pub returns : goal.returns
returns c = record { stands = Laws.StandsAfter-step; paints = Laws.paints-step; idle = Laws.idle_undo_redo }
