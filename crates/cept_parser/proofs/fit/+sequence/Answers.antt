use Rattle.cept_parser.proofs.SequenceLemmas.{goes_on}
use Rattle.cept_parser.proofs.fit.+sequence.Goals as goal

pub returns-then-is_plain-2-clause-fit : goal.returns-then-is_plain-2-clause-fit
returns-then-is_plain-2-clause-fit t c =
    goes_on c.args.last c.args.most _ _ c.if-most-eq0.false c.in-len1-up.len_at_least c.if-is_last.ensures
    c.if-is_plain-2.ensures c.sequence.ensures.fit
