-- The places that are told as they are fed (this project's own), as marks.
use Rattle.std.specs.Prelude.{Bool, true, List, [], ◌∷◌, slice_set}
use Rattle.cept_codes.specs.Place.{number}
use Rattle.cept_live.specs.Notices.{Saying, Change, Refusal}

-- the place of a saying is marked too, if it has one
abbrev pub marked_with_saying : List Bool → Saying → List Bool
marked_with_saying marks (Change at place look) = slice_set marks (number place.row place.column) true
marked_with_saying marks (Refusal at length reason) = marks

-- the places of sayings are marked too
unfoldable pub marked_with : List Bool → List Saying → List Bool
marked_with marks [] = marks
marked_with marks (saying ∷ more) = marked_with (marked_with_saying marks saying) more
