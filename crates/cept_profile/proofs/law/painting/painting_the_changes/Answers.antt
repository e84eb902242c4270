use Rattle.cept_profile.proofs.Laws
use Rattle.cept_profile.proofs.ListOfChanges.{AreChanges-changes_between, changed_is, changes_between-same}
use Rattle.cept_profile.proofs.ListOfChanges.{grid_with_paints-changes_between}
use Rattle.cept_profile.proofs.PaintedPlaces.{look_at-grid_with_paints}
use Rattle.cept_profile.proofs.law.painting.painting_the_changes.Goals as goal

pub returns : goal.returns
returns c = record {
  are_changes = AreChanges-changes_between;
  no_others = changed_is;
  no_changes = changes_between-same;
  gives = grid_with_paints-changes_between;
  others_stay = look_at-grid_with_paints;
  in_parts = Laws.grid_with_paints-append;
}
