use Rattle.std.proofs.Common.{◌&&◌, nat_le, nat_lt}
use Rattle.cept_plot.specs.inside.Lit.{IsSet}
use Rattle.cept_plot.proofs.field.Field.set_rows.Given as goal

-- the points of the rows before y are set
abbrev pub invariant-loop-y : goal.invariant-loop-y
invariant-loop-y l =
    IsSet l.fn.self l.self l.lit
    (λ px py. (nat_le l.top py && nat_lt py l.y) && (nat_le l.from px && nat_lt px l.end))
