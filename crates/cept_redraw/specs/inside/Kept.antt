-- What private clauses say beside `Kept` (this project's own).
use Rattle.std.specs.Prelude.{ℕ, ◌≡◌, ◌<◌, ◌≤◌, ◌*◌, ◌-◌, ◌||◌, Bool, false, not, List, [], length, slice_index_or}
use Rattle.std.specs.List.{list_any, range_with_len}
use Rattle.cept_codes.specs.declared.look.Look.{Look}
use Rattle.cept_codes.specs.Look.{blank_look}
use Rattle.cept_codes.specs.Place.{Place, OnScreen, number}
use Rattle.cept_codes.specs.Same.{same_look}
use Rattle.cept_codes.specs.Table.{value_at, IsTable}
use Rattle.cept_profile.specs.Cells.{is_at}
use Rattle.cept_profile.specs.Look.{look}
use Rattle.cept_profile.specs.PageParts.{row_pen_in}
use Rattle.cept_profile.specs.RowsFromAbove.{is_other_covering}
use Rattle.cept_profile.specs.State.{Core, Page, definitions_of}
use Rattle.cept_profile.specs.Tiling.{column_entry}
use Rattle.cept_redraw.specs.Marks.{is_marked}
use Rattle.cept_rows.specs.Source.{Source, look_by_itself, row_made}

-- what row r of a page is made of, where it is last or isn't
abbrev pub source_of : Page → ℕ → Bool → Source
source_of p r last = record {
  cells = slice_index_or p.cells (r - 1) [];
  row_pen = row_pen_in p.row_pens r;
  screen_pen = p.screen_pen;
  defined = definitions_of p;
  last = last;
}

-- the looks of row r of a page beneath these looks
abbrev pub row_beneath : List Look → Page → ℕ → Bool → List Look
row_beneath above p r last = row_made (source_of p r last) above

-- two rows have the same looks to the left of a column
abbrev pub IsLeftOf : ℕ → List Look → List Look → Type 0
IsLeftOf from looks row =
    (c : ℕ) → 1 ≤ c → c < from → column_entry blank_look looks c ≡ column_entry blank_look row c

-- and to the right of one
abbrev pub IsRightOf : ℕ → List Look → List Look → Type 0
IsRightOf until looks row =
    (c : ℕ) → until < c → c ≤ 40 → column_entry blank_look looks c ≡ column_entry blank_look row c

-- how what stands in a cell of a page looks by itself
abbrev pub look_alone : Page → Place → Look
look_alone p place = look_by_itself (source_of p place.row false) place.column

-- the looks aren't the same
unfoldable pub is_other_look : Look → Look → Bool
is_other_look a b = not (same_look a b)

-- what covers the row below differs between two rows of looks
unfoldable pub is_other_above : List Look → List Look → Bool
is_other_above was fresh =
    list_any (λ c. is_other_covering (column_entry blank_look was c) (column_entry blank_look fresh c))
    (range_with_len 1 40)

-- all places but this one look as they did
abbrev pub OthersStay : List (List Look) → Core → Place → Type 0
OthersStay was k place = (r c : ℕ) → OnScreen r c → is_at place r c ≡ false → value_at blank_look was r c ≡ look k r c

-- the places of row r left of column `end` in which two lists of looks differ are marked besides, and no others
pub record HasMarkedRow (was fresh : List Look) (r end : ℕ) (before marks : List Bool) : Type 0 where
  pub places : length marks ≡ 960
  pub marked : (c : ℕ) → OnScreen r c → c < end
      → is_marked marks (number r c) ≡ (is_marked before (number r c)
      || is_other_look (column_entry blank_look was c) (column_entry blank_look fresh c))
  pub marks_above : (n : ℕ) → n < number r 1 → is_marked marks n ≡ is_marked before n
  pub marks_below : (n : ℕ) → number r end ≤ n → is_marked marks n ≡ is_marked before n

-- each place with a number from `first` on and below `end` shows what f says, and is marked besides if it showed
-- something else; all other places are as they were
pub record IsRefreshed (f : ℕ → ℕ
    → Look) (was now : List (List Look)) (before marks : List Bool) (first end : ℕ) : Type 0 where
  pub is : IsTable now
  pub places : length marks ≡ 960
  pub shown : (r c : ℕ) → OnScreen r c → first ≤ number r c → number r c < end → value_at blank_look now r c ≡ f r c
  pub marked : (r c : ℕ) → OnScreen r c → first ≤ number r c → number r c < end
      → is_marked marks (number r c) ≡ (is_marked before (number r c)
      || is_other_look (value_at blank_look was r c) (f r c))
  pub above : (r c : ℕ) → OnScreen r c → number r c < first → value_at blank_look now r c ≡ value_at blank_look was r c
  pub below : (r c : ℕ) → OnScreen r c → end ≤ number r c → value_at blank_look now r c ≡ value_at blank_look was r c
  pub marks_above : (n : ℕ) → n < first → is_marked marks n ≡ is_marked before n
  pub marks_below : (n : ℕ) → end ≤ n → is_marked marks n ≡ is_marked before n

-- row r shows these looks, and places of it that showed something else are marked besides; all others are as they were
abbrev pub IsRefreshedRow : List Look → ℕ → List (List Look) → List (List Look) → List Bool → List Bool → Type 0
IsRefreshedRow fresh r was now before marks =
    IsRefreshed (λ _ c. column_entry blank_look fresh c) was now before marks (40 * (r - 1)) (40 * r)
