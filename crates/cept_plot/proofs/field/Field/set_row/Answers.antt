use Rattle.std.proofs.Common.{◌==◌, ◌&&◌, nat_le, nat_lt, ap, arith}
use Rattle.cept_plot.proofs.RegionSet.{IsSet-same}
use Rattle.cept_plot.proofs.field.Field.set_row.Goals as goal

pub returns : goal.returns
returns c =
    IsSet-same c.args.self.now c.loop-x.self c.args.lit
    (λ px py. (py == c.args.y) && (nat_le c.args.from px && nat_lt px c.loop-x.x))
    (λ px py. (py == c.args.y) && (nat_le c.args.from px && nat_lt px c.args.end)) c.loop-x.invariant
    (λ px py on. ap (λ k. (py == c.args.y) && (nat_le c.args.from px && nat_lt px k))
    (omega (arith, c.loop-x.auto.x-end c.requires.columns, c.loop-x-test.false)))
