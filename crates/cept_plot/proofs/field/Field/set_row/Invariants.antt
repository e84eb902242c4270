use Rattle.std.proofs.Common.{◌==◌, ◌&&◌, nat_le, nat_lt}
use Rattle.cept_plot.specs.inside.Lit.{IsSet}
use Rattle.cept_plot.proofs.field.Field.set_row.Given as goal

-- the points before x are set
abbrev pub invariant-loop-x : goal.invariant-loop-x
invariant-loop-x l = IsSet l.fn.self l.self l.lit (λ px py. (py == l.y) && (nat_le l.from px && nat_lt px l.x))
