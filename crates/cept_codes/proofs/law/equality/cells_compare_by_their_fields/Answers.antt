use Rattle.cept_codes.proofs.EqualityDecides.{set_decides, glyph_decides, marker_decides, what_decides, cell_decides}
use Rattle.cept_codes.proofs.EqualityDecides.{row_decides, read_decides}
use Rattle.cept_codes.proofs.law.equality.cells_compare_by_their_fields.Goals as goal

pub returns-clause-set : goal.returns-clause-set
returns-clause-set c = set_decides

pub returns-clause-glyph : goal.returns-clause-glyph
returns-clause-glyph c = glyph_decides

pub returns-clause-read : goal.returns-clause-read
returns-clause-read c = read_decides

pub returns-clause-marker : goal.returns-clause-marker
returns-clause-marker c = marker_decides

pub returns-clause-what : goal.returns-clause-what
returns-clause-what c = what_decides

pub returns-clause-cell : goal.returns-clause-cell
returns-clause-cell c = cell_decides

pub returns-clause-row : goal.returns-clause-row
returns-clause-row c = row_decides
