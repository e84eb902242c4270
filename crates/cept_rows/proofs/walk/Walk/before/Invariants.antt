use Rattle.std.proofs.Common.{◌-◌}
use Rattle.cept_rows.specs.inside.Walk.{IsWalk}
use Rattle.cept_rows.proofs.walk.Walk.before.Given as goal

abbrev pub invariant-loop-passed : goal.invariant-loop-passed
invariant-loop-passed l = IsWalk l.source (l.passed - 1) l.walk
