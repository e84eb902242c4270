-- Worked counts of the outside, by computing: calls that are to fail, faults, flushes and bytes, each up to its end.
use Rattle.std.proofs.Common.{◌≡◌, ◌^◌, ◌-◌, [], ◌∷◌, Some, None, map, refl, arith}
use Rattle.std.specs.List.{range_with_len}
use Rattle.cept_outside.specs.Calls.{faults_of, numbers_with, reached_count}
use Rattle.cept_outside.specs.Causes.{Rose}
use Rattle.cept_outside.specs.SinkState.{count_after, one_more}

-- a count rose where it is one higher or more; at its end it stands
rose-by_one : Rose 0 1
rose-by_one = omega arith

rose-by_more : Rose 3 5
rose-by_more = omega arith

rose-at_end : Rose (2 ^ 64 - 1) (2 ^ 64 - 1)
rose-at_end = omega arith

stays-at_none : Rose 0 0 → ⊥
stays-at_none h = omega (arith, h)

stays-below_end : Rose (2 ^ 64 - 2) (2 ^ 64 - 2) → ⊥
stays-below_end h = omega (arith, h)

-- one flush more
flushes : map one_more (0 ∷ 1 ∷ 41 ∷ 18446744073709551614 ∷ 18446744073709551615 ∷ [])
    ≡ 1 ∷ 2 ∷ 42 ∷ 18446744073709551615 ∷ 18446744073709551615 ∷ []
flushes = refl

-- bytes more, where they are counted
bytes : count_after (Some 5) 3 ∷ count_after (Some 5) 0 ∷ count_after None 3 ∷ count_after (Some 18446744073709551614) 3 ∷ []
    ≡ Some 8 ∷ Some 5 ∷ None ∷ Some 18446744073709551615 ∷ []
bytes = refl

-- of the calls 1, 3 and 5 those that are reached after so many calls
reached : map (reached_count (1 ∷ 3 ∷ 5 ∷ [])) (0 ∷ 1 ∷ 2 ∷ 3 ∷ 4 ∷ 5 ∷ 6 ∷ []) ≡ 0 ∷ 1 ∷ 1 ∷ 2 ∷ 2 ∷ 3 ∷ 3 ∷ []
reached = refl

-- with faults of another kind
faults : map (faults_of (2 ∷ []) 2) (0 ∷ 4 ∷ 18446744073709551615 ∷ []) ≡ 1 ∷ 5 ∷ 18446744073709551615 ∷ []
faults = refl

-- sixteen numbers are kept
sixteenth : numbers_with (range_with_len 1 15) 16 ≡ range_with_len 1 16
sixteenth = refl

seventeenth : numbers_with (range_with_len 1 16) 17 ≡ range_with_len 1 16
seventeenth = refl
