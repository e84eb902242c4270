-- Calls, numbered from 1 as they are made: those whose numbers are kept are to fail. This project's own.
use Rattle.std.specs.Prelude.{ℕ, ◌+◌, ◌-◌, ◌^◌, min, List, [], ◌∷◌, ◌++◌, length, nat_le, nat_lt, count_by}
use Rattle.std.specs.Prelude.{if◌then◌else◌}

-- how many of the numbers are reached: those that are at most the count of calls
abbrev pub reached_count : List ℕ → ℕ → ℕ
reached_count numbers count = count_by (λ n. nat_le n count) numbers

-- how many numbers are reached and how many faults of another kind there are, together, up to the greatest u64
abbrev pub faults_of : List ℕ → ℕ → ℕ → ℕ
faults_of numbers count others = min (reached_count numbers count + others) (2 ^ 64 - 1)

-- the numbers kept after one more: at most 16, and a seventeenth is ignored
abbrev pub numbers_with : List ℕ → ℕ → List ℕ
numbers_with numbers number = if nat_lt (length numbers) 16 then numbers ++ number ∷ [] else numbers
