use Rattle.cept_codes.proofs.EqualityDecides.{stroke_decides}
use Rattle.cept_codes.proofs.law.equality.strokes_compare_by_their_fields.Goals as goal

pub returns : goal.returns
returns c = stroke_decides
