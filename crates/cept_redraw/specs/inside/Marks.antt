-- What private clauses say beside `Marks` (this project's own).
use Rattle.std.specs.Prelude.{ℕ, ◌≡◌, ◌≤◌, ◌<◌, ◌+◌, ◌||◌, Bool, false, List, length, slice_index_or}
use Rattle.cept_redraw.specs.Marks.{is_marked}

-- the places are marked besides that are flagged in a row, from that with this number on, and no others
pub record HasFlags (flags : List Bool) (first : ℕ) (before marks : List Bool) : Type 0 where
  pub places : length marks ≡ 960
  pub row : (i : ℕ) → i < 40 → is_marked marks (first + i) ≡ (is_marked before (first + i) || slice_index_or flags i false)
  pub above : (n : ℕ) → n < first → is_marked marks n ≡ is_marked before n
  pub below : (n : ℕ) → first + 40 ≤ n → is_marked marks n ≡ is_marked before n
