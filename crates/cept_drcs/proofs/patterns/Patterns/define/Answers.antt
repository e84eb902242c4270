use Rattle.std.proofs.Common.{Some}
use Rattle.cept_drcs.proofs.PatternLists.{pattern_written}
use Rattle.cept_drcs.proofs.patterns.Patterns.define.Goals as goal

pub returns-clause-patterns : goal.returns-clause-patterns
returns-clause-patterns c =
    pattern_written c.self.inside.patterns.items c.args.self.now c.from.result c.args.code (Some c.args.pattern)
    c.self.invariant.codes c.self.view_is c.requires.code c.from.ensures
