use Rattle.cept_drcs.proofs.StripWords.{ten_of, ten_none}
use Rattle.cept_drcs.proofs.strips.Strips.ten.Goals as goal

pub returns-then-from-self-clause-number : goal.returns-then-from-self-clause-number
returns-then-from-self-clause-number c =
    ten_of c.args.from c.from.result c.self.inside.count c.self.inside.room c.args.self.now _
    c.self.invariant.clear c.self.view_is c.from.ensures c.ten.ensures.number

pub returns-else-from-self-clause-number : goal.returns-else-from-self-clause-number
returns-else-from-self-clause-number c =
    ten_none c.args.from c.self.inside.count c.self.inside.room c.args.self.now c.self.invariant.clear
    c.self.view_is c.if-from-self.false
