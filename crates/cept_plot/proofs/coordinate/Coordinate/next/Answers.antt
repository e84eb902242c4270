use Rattle.std.proofs.Common.{◌≡◌, ◌+◌, ◌-◌, ◌*◌, ap, arith}
use Rattle.cept_plot.proofs.coordinate.Coordinate.next.Goals as goal

pub returns-else-slope-rest-clause-down : goal.returns-else-slope-rest-clause-down
returns-else-slope-rest-clause-down c falls =
    let some = c.requires.below falls (omega (arith, c.if-slope-rest.false)) in
    let e : c.args.self.at ≡ (c.args.self.at - 1) + 1 = omega (arith, some) in
    omega (arith, ap (λ k. c.args.slope.now.whole * k) e, c.if-slope-rest.false, c.requires.part)
