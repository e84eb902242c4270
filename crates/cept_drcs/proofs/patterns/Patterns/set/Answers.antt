use Rattle.cept_drcs.proofs.PatternLists.{pattern_written}
use Rattle.cept_drcs.proofs.patterns.Patterns.set.Goals as goal

pub returns : goal.returns
returns c =
    pattern_written c.self.inside.patterns.items c.args.self.now c.from.result c.args.code c.args.pattern
    c.self.invariant.codes c.self.view_is c.requires.code c.from.ensures
