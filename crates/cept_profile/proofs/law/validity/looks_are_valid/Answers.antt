use Rattle.cept_profile.proofs.Laws
use Rattle.cept_profile.proofs.ValidLook.{IsValidGrid-grid}
use Rattle.cept_profile.proofs.law.validity.looks_are_valid.Goals as goal

pub returns : goal.returns
returns c = record {
  of_cell = Laws.IsValidLook-look_of;
  in_row = Laws.IsValidLook-look_in_row;
  of_page = Laws.AreValidDefinitions-page;
  from_above = Laws.IsValidLook-row_from_above;
  of_core = Laws.IsValidGrid-looks_of;
  always = IsValidGrid-grid;
}
