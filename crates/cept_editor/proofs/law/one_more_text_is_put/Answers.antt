use Rattle.cept_editor.proofs.Laws
use Rattle.cept_editor.proofs.law.one_more_text_is_put.Goals as goal

pub returns : goal.returns
returns c = record { made = Laws.AreMade-end; cut = Laws.AreCutOff-end }
