use Rattle.std.proofs.Common.{arith}
use Rattle.cept_redraw.proofs.MarkedWithin.{cleared, cleared_one}
use Rattle.cept_redraw.proofs.marks.unmark_within.Goals as goal

pub returns-then-first-end : goal.returns-then-first-end
returns-then-first-end c = cleared_one c.requires.within c.requires.places (omega arith)

pub returns-else-first-end : goal.returns-else-first-end
returns-else-first-end c =
    cleared c.requires.within c.requires.places c.unmark.new.flags (omega arith) c.unmark.ensures
