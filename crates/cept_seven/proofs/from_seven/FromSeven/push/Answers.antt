use Rattle.cept_seven.proofs.PushLemmas.{eight_more, leads_more, accepted_ends}
use Rattle.cept_seven.proofs.from_seven.FromSeven.push.Goals as goal

pub returns-clause-eight : goal.returns-clause-eight
returns-clause-eight c s l n =
    eight_more s c.args.self.now c.args.byte c.hear.result l c.hear.ensures.answer

pub returns-clause-leads : goal.returns-clause-leads
returns-clause-leads c s l n =
    leads_more s c.args.self.now c.hear.new.self c.args.byte c.hear.result l c.hear.ensures.answer n
    (c.hear.ensures.state n)

pub returns-clause-refused : goal.returns-clause-refused
returns-clause-refused c s rest l n =
    accepted_ends s rest c.args.self.now c.args.byte c.hear.result l c.hear.ensures.answer n
