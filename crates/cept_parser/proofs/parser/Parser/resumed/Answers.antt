use Rattle.std.proofs.Common.{arith}
use Rattle.std.proofs.lemmas.Bool.{both_ways}
use Rattle.cept_parser.proofs.ResumedLemmas.{leads_valid, leads_waits, leads_counted}
use Rattle.cept_parser.proofs.parser.Parser.resumed.Goals as goal

pub returns-then-not-is_valid-clause-always : goal.returns-then-not-is_valid-clause-always
returns-then-not-is_valid-clause-always c b l =
    absurd (both_ways _ c.if-not-is_valid.true (c.is_valid.ensures.1 (leads_valid b _ l)))

pub returns-then-pending-place-clause-always : goal.returns-then-pending-place-clause-always
returns-then-pending-place-clause-always c b l =
    let n = leads_counted b _ l in absurd (omega (arith, c.if-pending-place.true))

pub returns-in-None-clause-always : goal.returns-in-None-clause-always
returns-in-None-clause-always c b l = c.in-None.ensures.always (leads_waits b _ l)
