use Rattle.cept_editor.proofs.Laws
use Rattle.cept_editor.proofs.law.events_are_painted_in_turn.Goals as goal

pub returns : goal.returns
returns c = record {
  none = Laws.ArePainted-none;
  still = Laws.ArePainted-still;
  more = Laws.ArePainted-more;
  all_still = Laws.still_append;
}
