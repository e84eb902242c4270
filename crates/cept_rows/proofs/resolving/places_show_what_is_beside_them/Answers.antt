use Rattle.cept_rows.proofs.RowsByPart.{look_from-beside}
use Rattle.cept_rows.proofs.resolving.places_show_what_is_beside_them.Goals as goal

pub returns : goal.returns
returns c = look_from-beside
