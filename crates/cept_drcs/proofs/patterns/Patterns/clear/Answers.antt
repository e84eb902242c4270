use Rattle.std.proofs.Common.{arith}
use Rattle.cept_drcs.proofs.PatternLists.{cleared}
use Rattle.cept_drcs.proofs.patterns.Patterns.clear.Goals as goal

pub invariant_of-self : goal.invariant_of-self
invariant_of-self c =
    cleared c.self.inside.patterns.items c.take_away.new.patterns c.self.inside.patterns.len c.self.invariant.codes
    (omega arith) c.take_away.ensures
