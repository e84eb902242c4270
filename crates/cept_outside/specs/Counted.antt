-- Counts of faults are below 2^64. This project's own. It holds proofs: a ghost member of an object can cite specs
-- alone, and `counted` cites these.
use Rattle.std.proofs.Common.{ℕ, ◌+◌, ◌-◌, ◌^◌, ◌<◌, List, suc-le-suc, zero-lt-suc}
use Rattle.std.proofs.Math.Nat.{min-le_right}
use Rattle.cept_outside.specs.Calls.{reached_count, faults_of}

-- the faults of numbered calls
pub faults_counted : (numbers : List ℕ) (count others : ℕ) → faults_of numbers count others < 2 ^ 64
faults_counted numbers count others = suc-le-suc (min-le_right (reached_count numbers count + others) (2 ^ 64 - 1))

-- no fault at all
pub none_counted : 0 < 2 ^ 64
none_counted = zero-lt-suc (2 ^ 64 - 1)
