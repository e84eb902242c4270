-- Rows as they stood before rows moved, found by a walk from the top: from its row on they still stand in what is kept,
-- and the two above it stand apart (this project's own).
use Rattle.std.specs.Prelude.{ℕ, ◌≡◌, ◌≤◌, ◌+◌, ◌-◌, ◌==◌, ◌||◌, ◌&&◌, not, Bool, true, false, List, Option, Some, None}
use Rattle.std.specs.Prelude.{nat_le, nat_lt, slice_set, if◌then◌else◌}
use Rattle.cept_codes.specs.declared.look.Look.{Look}
use Rattle.cept_profile.specs.RowsFromAbove.{looks_in}
use Rattle.cept_redraw.specs.declared.followed_rows.Followed.{Followed}
use Rattle.cept_redraw.specs.declared.passed_rows.Passed.{Passed}
use Rattle.cept_redraw.specs.inside.Due.{came_from, row_from}
use Rattle.cept_redraw.specs.inside.Kept.{HasMarkedRow}

-- what stood in row q, as it is found at row r
abbrev pub stood_in : Passed → List (List Look) → ℕ → ℕ → List Look
stood_in passed kept r q =
    if nat_le r q then looks_in kept q else if q + 1 == r then passed.near else passed.far

-- of which row the row above row r came, or which it is where it was freed
abbrev pub came_above : List Followed → ℕ → ℕ
came_above rows r = came_from (row_from rows (r - 1)) (r - 1)

-- a row that came of this one asks for one above it, beneath a row that came of that one: it came of one above it, or of
-- itself beneath one that came of another
abbrev pub looks_back : Option ℕ → ℕ → ℕ → Bool
looks_back None r above = false
looks_back (Some q) r above = nat_lt q r || (q == r && not (above == r - 1))

-- no row does
abbrev pub NoneLooksBack : List Followed → Type 0
NoneLooksBack rows = (r : ℕ) → 1 ≤ r → r ≤ 24 → looks_back (row_from rows r) r (came_above rows r) ≡ false

-- no row came of one further than one above it
abbrev pub GoDownByOne : List Followed → Type 0
GoDownByOne rows = (r q : ℕ) → 1 ≤ r → r ≤ 24 → row_from rows r ≡ Some q → r ≤ q + 1

-- at row r the two rows above it are found as they stood
pub record HavePassed (was : List (List Look)) (passed : Passed) (r : ℕ) : Type 0 where
  pub near : passed.near ≡ looks_in was (r - 1)
  pub far : 2 ≤ r → passed.far ≡ looks_in was (r - 2)

-- row r shows these looks, places of it that showed something else are marked besides, and what stood in it is passed
-- where this is so; all others are as they were
pub record HasTaken (fresh : List Look) (r : ℕ) (back : Bool) (was now : List (List Look)) (passed passing : Passed)
    (before marks : List Bool) : Type 0 where
  pub kept : now ≡ slice_set was (r - 1) fresh
  pub marked : HasMarkedRow (looks_in was r) fresh r 41 before marks
  pub near : back ≡ true → passing.near ≡ looks_in was r
  pub far : back ≡ true → passing.far ≡ passed.near
