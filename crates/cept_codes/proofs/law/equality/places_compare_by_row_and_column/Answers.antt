use Rattle.cept_codes.proofs.EqualityDecides.{place_decides}
use Rattle.cept_codes.proofs.law.equality.places_compare_by_row_and_column.Goals as goal

pub returns : goal.returns
returns c = place_decides
