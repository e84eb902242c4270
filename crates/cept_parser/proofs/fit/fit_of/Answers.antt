use Rattle.cept_parser.proofs.PatternLemmas.{alone_answer}
use Rattle.cept_parser.proofs.fit.fit_of.Goals as goal

pub returns-in-len1 : goal.returns-in-len1
returns-in-len1 c =
    alone_answer c.args.context.now _ c.args.ended c.args.said.now _ c.in-len1.len_at_least c.in-len1.len_below c.requires.other c.first.ensures
