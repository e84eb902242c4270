use Rattle.cept_codes.proofs.EqualityDecides.{rgb_decides, paint_decides, pattern_decides, inks_decides, shape_decides}
use Rattle.cept_codes.proofs.EqualityDecides.{part_decides}
use Rattle.cept_codes.proofs.Laws
use Rattle.cept_codes.proofs.law.equality.looks_compare_by_their_fields.Goals as goal

pub returns-clause-rgb : goal.returns-clause-rgb
returns-clause-rgb c = rgb_decides

pub returns-clause-paint : goal.returns-clause-paint
returns-clause-paint c = paint_decides

pub returns-clause-pattern : goal.returns-clause-pattern
returns-clause-pattern c = pattern_decides

pub returns-clause-inks : goal.returns-clause-inks
returns-clause-inks c = inks_decides

pub returns-clause-shape : goal.returns-clause-shape
returns-clause-shape c = shape_decides

pub returns-clause-part : goal.returns-clause-part
returns-clause-part c = part_decides

pub returns-clause-look : goal.returns-clause-look
returns-clause-look c = Laws.look_decides
