use Rattle.cept_editor.proofs.Laws
use Rattle.cept_editor.proofs.law.each_event_is_shown.Goals as goal

pub returns : goal.returns
returns c = record { unpainted = Laws.no_paint; shown = Laws.event_shown }
