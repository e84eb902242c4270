use Rattle.cept_editor.proofs.Laws
use Rattle.cept_editor.proofs.law.texts_and_changes_in_order.Goals as goal

pub returns : goal.returns
returns c = record {
  no_text = Laws.report-none;
  text = Laws.report-one;
  texts = Laws.report-append;
  no_change = Laws.paints-none;
  change = Laws.paints-one;
  changes = Laws.paints-append;
}
