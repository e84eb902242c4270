-- What a shelf and a sink in memory do exactly. This project's own.
use Rattle.std.specs.Prelude.{◌≡◌, ◌↔◌, ℕ, ◌+◌, ◌-◌, ◌^◌, ◌≤◌, min, nat_lt, List, ◌++◌, take, drop, length, Some, None, is_some}
use Rattle.std.specs.Prelude.{Result, IsErr, IsOk, IfOk, if◌then◌else◌}
use Rattle.cept_outside.specs.ShelfState.{ShelfState, bytes_under}
use Rattle.cept_outside.specs.SinkState.{SinkState}

-- a selection fails exactly at a name that the shelf doesn't have, and counts that as missed
pub record SelectsKnown {X E : Type 0} (old : ShelfState) (name : List ℕ) (result : Result X E) (new : ShelfState)
    : Type 0 where
  pub fails : IsErr result ↔ (bytes_under old name ≡ None)
  pub missed : new.missed ≡ (if is_some (bytes_under old name) then old.missed else min (old.missed + 1) (2 ^ 64 - 1))

-- a take never fails, and moves as much as there is and fits
pub record TakesMost {E : Type 0} (old : ShelfState) (before : List ℕ) (result : Result ℕ E) (after : List ℕ) : Type 0
  where
    pub never_fails : IsOk result
    pub most : (left : List ℕ) → old.left ≡ Some left → IfOk result (λ n. (n ≡ min (length left) (length before))
        × (after ≡ take n left ++ drop n before))

-- a put into a sink of this room, which holds so many bytes, fails exactly where there is no room for more, and counts that
-- as a fault; else it appends as much as there is room for
pub record PutsMost {E : Type 0} (room count : ℕ) (old : SinkState) (piece : List ℕ) (result : Result ℕ E)
    (new : SinkState) : Type 0 where
  pub fails : IsErr result ↔ (room ≤ count)
  pub most : IfOk result (λ n. n ≡ min (room - count) (length piece))
  pub refused : new.faults ≡ (if nat_lt count room then old.faults else min (old.faults + 1) (2 ^ 64 - 1))
