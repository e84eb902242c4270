use Rattle.std.proofs.Common.{◌≡◌, ◌+◌, ◌-◌, subst, arith}
use Rattle.cept_rows.specs.inside.Walk.{IsWalk}
use Rattle.cept_rows.proofs.walk.Walk.before.Goals as goal

pub loop-passed-init : goal.loop-passed-init
loop-passed-init c = c.at_start-walk.ensures

pub pass-requires : goal.pass-requires
pass-requires c = rw c.numbered.ensures c.loop-passed.invariant

pub loop-passed-preserved : goal.loop-passed-preserved
loop-passed-preserved c =
    let next : c.numbered.result ≡ c.loop-passed.passed + 1 - 1 = omega (arith, c.numbered.ensures) in
    subst (λ n. IsWalk c.args.source.now n c.pass.new.self) next c.pass.ensures

pub returns : goal.returns
returns c =
    let whole : c.loop-passed.passed ≡ c.args.column = omega (arith, c.number-passed-end.ensures) in
    subst (λ n. IsWalk c.args.source.now (n - 1) c.loop-passed.walk) whole c.loop-passed.invariant
