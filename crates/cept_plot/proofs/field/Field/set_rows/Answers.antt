use Rattle.std.proofs.Common.{◌&&◌, nat_le, nat_lt, ap, arith}
use Rattle.cept_plot.proofs.RegionSet.{IsSet-same}
use Rattle.cept_plot.proofs.field.Field.set_rows.Goals as goal

pub returns : goal.returns
returns c =
    IsSet-same c.args.self.now c.loop-y.self c.args.lit
    (λ px py. (nat_le c.args.top py && nat_lt py c.loop-y.y) && (nat_le c.args.from px && nat_lt px c.args.end))
    (λ px py. (nat_le c.args.top py && nat_lt py c.args.bottom) && (nat_le c.args.from px && nat_lt px c.args.end))
    c.loop-y.invariant
    (λ px py on. ap (λ k. (nat_le c.args.top py && nat_lt py k) && (nat_le c.args.from px && nat_lt px c.args.end))
    (omega (arith, c.loop-y.auto.y-end c.requires.rows, c.loop-y-test.false)))
