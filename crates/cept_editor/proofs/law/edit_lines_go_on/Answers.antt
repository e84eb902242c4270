use Rattle.cept_editor.proofs.Laws
use Rattle.cept_editor.proofs.law.edit_lines_go_on.Goals as goal

pub returns : goal.returns
returns c = record {
  none = Laws.kept-none;
  more = Laws.kept-more;
  few = Laws.kept-few;
  page = Laws.remaining-none;
  nothing = Laws.states_before-none;
  nothing_again = Laws.states_again-none;
  start = Laws.StandsAfter-start;
}
