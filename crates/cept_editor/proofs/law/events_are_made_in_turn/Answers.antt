use Rattle.cept_editor.proofs.Laws
use Rattle.cept_editor.proofs.law.events_are_made_in_turn.Goals as goal

pub returns : goal.returns
returns c = record {
  none = Laws.AreMade-none;
  all = Laws.AreMade-append;
  cut = Laws.AreCutOff-after;
  longer = Laws.AreCutOff-longer;
  untouched = Laws.cut_untouched;
}
