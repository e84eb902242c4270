-- Rows of looks in little space (own): forty small looks, and beside each the drawing of its pattern.
use Rattle.std.specs.Prelude.{ℕ, ◌≡◌, ◌-◌, ◌<◌, false, List, length, slice_index_or}
use Rattle.cept_codes.specs.declared.look.Look.{Look}
use Rattle.cept_codes.specs.Table.{row_of}
use Rattle.cept_profile.specs.Tiling.{covers_below}
use Rattle.cept_rows.specs.declared.drawing.Drawing.{Drawing}
use Rattle.cept_rows.specs.declared.row_looks.RowLooks.TheInside.{Inside}
use Rattle.cept_rows.specs.declared.small_look.SmallLook.{SmallLook}
use Rattle.cept_rows.specs.SmallLooks.{IsSmallLook, blank_small, has_pattern, look_kept, no_drawing}

-- the look that is kept in a column
abbrev pub kept_in : List SmallLook → List Drawing → ℕ → Look
kept_in looks drawn c =
    look_kept (slice_index_or looks (c - 1) blank_small) (slice_index_or drawn (c - 1) no_drawing)

-- the looks that are kept
abbrev pub looks_kept : Inside → List Look
looks_kept a = row_of (kept_in a.looks a.drawn)

-- forty of each, in each column a small look with its drawing; without the flag `patterned` no pattern, and without
-- `tall` none that covers the place below it
pub record IsKeptRow (a : Inside) : Type 0 where
  pub columns : length a.looks ≡ 40
  pub drawings : length a.drawn ≡ 40
  pub small : (k : ℕ) → k < 40
      → IsSmallLook (slice_index_or a.looks k blank_small) (slice_index_or a.drawn k no_drawing)
  pub plain : a.patterned ≡ false → (k : ℕ) → k < 40 → has_pattern (slice_index_or a.looks k blank_small) ≡ false
  pub low : a.tall ≡ false → (k : ℕ) → k < 40 → covers_below (slice_index_or a.looks k blank_small).part ≡ false
