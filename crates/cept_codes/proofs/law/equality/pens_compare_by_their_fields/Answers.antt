use Rattle.cept_codes.proofs.EqualityDecides.{size_decides, flash_decides, attr_decides, pen_decides, full_decides}
use Rattle.cept_codes.proofs.law.equality.pens_compare_by_their_fields.Goals as goal

pub returns-clause-size : goal.returns-clause-size
returns-clause-size c = size_decides

pub returns-clause-flash : goal.returns-clause-flash
returns-clause-flash c = flash_decides

pub returns-clause-attr : goal.returns-clause-attr
returns-clause-attr c = attr_decides

pub returns-clause-pen : goal.returns-clause-pen
returns-clause-pen c = pen_decides

pub returns-clause-full : goal.returns-clause-full
returns-clause-full c = full_decides
