-- Places of the screen: rows and columns from 1, as US names them (ETS 300 072, active position). How many there are,
-- and reading order, are this profile's own.
use Rattle.std.specs.Prelude.{ℕ, ◌+◌, ◌*◌, ◌-◌, ◌/◌, ◌%◌, ◌≤◌}

-- a row of the screen
abbrev pub IsRow : ℕ → Type 0
IsRow r = (1 ≤ r) × (r ≤ 24)

-- a column of it
abbrev pub IsColumn : ℕ → Type 0
IsColumn c = (1 ≤ c) × (c ≤ 40)

-- a row, 1 to 24 from the top, and a column, 1 to 40 from the left
pub record Place : Type 0 where
  pub row : ℕ
  pub column : ℕ

-- there is such a place
pub record OnScreen (r c : ℕ) : Type 0 where
  pub from_top : 1 ≤ r
  pub to_bottom : r ≤ 24
  pub from_left : 1 ≤ c
  pub to_right : c ≤ 40

-- the number of a place in reading order, from 0: rows from the top, columns from the left
abbrev pub number : ℕ → ℕ → ℕ
number r c = 40 * (r - 1) + (c - 1)

-- the place with this number
abbrev pub place_of : ℕ → Place
place_of n = record { row = n / 40 + 1; column = n % 40 + 1 }
