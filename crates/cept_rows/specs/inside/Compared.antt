-- Two rows of looks, compared (own).
use Rattle.std.specs.Prelude.{ℕ, ◌≡◌, ◌≤◌, ◌<◌, ◌+◌, ◌||◌, Bool, List}
use Rattle.cept_codes.specs.declared.look.Look.{Look}
use Rattle.cept_codes.specs.Table.{list_by_index}
use Rattle.cept_profile.specs.Look.{part_of}
use Rattle.cept_profile.specs.Names.{some_place}
use Rattle.cept_profile.specs.RowsFromAbove.{is_other_covering}
use Rattle.cept_profile.specs.Tiling.{covers_below}
use Rattle.cept_rows.specs.declared.row_looks.Differences.{Differences}
use Rattle.cept_rows.specs.Flagged.{look_at, looks_differ}

-- the same to the left of a column, and to the right of another, which may stand just before it
pub record IsSameBeside (was now : List Look) (from until : ℕ) : Type 0 where
  pub order : from ≤ until + 1
  pub to_right : until ≤ 40
  pub left : (c : ℕ) → 1 ≤ c → c < from → look_at was c ≡ look_at now c
  pub right : (c : ℕ) → until < c → c ≤ 40 → look_at was c ≡ look_at now c

-- the look of one of two rows covers the place below it
abbrev pub one_covers : List Look → List Look → ℕ → Bool
one_covers was now c = covers_below (part_of (look_at was c)) || covers_below (part_of (look_at now c))

-- in which columns, whether in any, and whether one of the looks that differ covers the place below it
pub record AreDifferences (was now : List Look) (found : Differences) : Type 0 where
  pub columns : found.columns ≡ list_by_index 1 40 (looks_differ was now)
  pub any : found.any ≡ some_place (looks_differ was now)
  pub covering : found.covering ≡ some_place (λ c. is_other_covering (look_at was c) (look_at now c))
