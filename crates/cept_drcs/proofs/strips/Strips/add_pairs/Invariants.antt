use Rattle.std.proofs.Common.{◌≡◌}
use Rattle.cept_drcs.proofs.StripLemmas.{HasPairs}
use Rattle.cept_drcs.proofs.strips.Strips.add_pairs.Given as goal

abbrev pub invariant-loop-k : goal.invariant-loop-k
invariant-loop-k l =
    (l.self-inside.count ≡ l.initial.self-inside.count)
    × HasPairs l.initial.self-inside.room l.self-inside.room l.count l.k l.left l.right
