use Rattle.std.proofs.Common.{◌≡◌, ◌+◌, ◌-◌}
use Rattle.cept_drcs.specs.Strips.{number_of}
use Rattle.cept_drcs.proofs.words.ten.Given as goal

abbrev pub invariant-loop-k : goal.invariant-loop-k
invariant-loop-k l = l.number ≡ number_of l.k (l.from + 10 - l.k) l.strips
