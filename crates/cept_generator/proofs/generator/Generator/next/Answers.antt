use Rattle.cept_generator.proofs.BytesLeft.{head_left, none_left, unit_left}
use Rattle.cept_generator.proofs.UnitsMeasured.{unit_some}
use Rattle.cept_generator.proofs.generator.Generator.next.Goals as goal

pub returns-then-not-self-clause-next : goal.returns-then-not-self-clause-next
returns-then-not-self-clause-next c =
    rw (← c.self.view_is, c.piece_of.ensures) (head_left c.self.inside.begun c.self.inside.left c.self.inside.draws.state c.if-not-self.true)

pub returns-then-self-eq0-clause-next : goal.returns-then-self-eq0-clause-next
returns-then-self-eq0-clause-next c =
    let e = none_left c.self.inside.begun c.self.inside.left c.self.inside.draws.state c.if-not-self.false c.if-self-eq0.true in
    let f = c.self.view_is in
    (cc, cc)

pub returns-clause-next : goal.returns-clause-next
returns-clause-next c =
    rw (← c.self.view_is, c.unit.ensures.bytes, c.unit.ensures.state)
    (unit_left c.self.inside.begun c.self.inside.left c.self.inside.draws.state c.if-not-self.false c.if-self-eq0.false)

pub returns-clause-some : goal.returns-clause-some
returns-clause-some c = rw c.unit.ensures.bytes (unit_some c.self.inside.draws.state)
