-- Rows that are due to be resolved after strokes (this project's own): those that are altered of themselves, and those
-- that are covered from above otherwise than before.
use Rattle.std.specs.Prelude.{ℕ, ◌+◌, ◌-◌, ◌≡◌, ◌<◌, ◌≤◌, ◌||◌, Bool, true, false, not, List, [], length, Option, Some, None}
use Rattle.std.specs.List.{count_by, list_any, range_with_len}
use Rattle.std.specs.Option.{option_map_or}
use Rattle.cept_codes.specs.declared.look.Look.{Look}
use Rattle.cept_codes.specs.declared.stroke.Stroke.{Stroke}
use Rattle.cept_codes.specs.declared.stroke.Stroke.TheVariants as strokes
use Rattle.cept_codes.specs.Look.{blank_look}
use Rattle.cept_codes.specs.Place.{OnScreen}
use Rattle.cept_codes.specs.Same.{same_pen}
use Rattle.cept_codes.specs.Table.{entry, list_by_index, value_at}
use Rattle.cept_profile.specs.Cells.{shifted}
use Rattle.cept_profile.specs.Edges.{Edges, is_last}
use Rattle.cept_profile.specs.Look.{look, looks_of}
use Rattle.cept_profile.specs.MovedRows.{MovedRows, moved_rows, row_before}
use Rattle.cept_profile.specs.PageParts.{row_pen_in}
use Rattle.cept_profile.specs.Reach.{is_written, just_one, writes}
use Rattle.cept_profile.specs.RowsFromAbove.{is_covered_otherwise, look_seen}
use Rattle.cept_profile.specs.State.{Core, Page}
use Rattle.cept_profile.specs.Valid.{IsValidPage}
use Rattle.cept_rows.specs.RowsByCell.{IsCoveredAlike}
use Rattle.cept_page.specs.declared.page.Pens.{Pens}
use Rattle.cept_redraw.specs.declared.followed_rows.Followed.{Followed}
use Rattle.cept_redraw.specs.Resolved.{defines}

-- ---- rows followed through strokes

-- row r after strokes: the row before them of which it came, none where it was freed, and whether one of them writes in it
abbrev pub followed : List Stroke → ℕ → Followed
followed strokes r = record { from = row_before strokes r; written = is_written strokes r }

-- a row that was freed
abbrev pub freed : Followed
freed = record { from = None; written = false }

-- a row in which a stroke writes, or doesn't
abbrev pub written_if : Bool → Followed → Followed
written_if writes row = record { from = row.from; written = writes || row.written }

-- the rows after one stroke more, by what they were before it
abbrev pub followed_after : Stroke → (ℕ → Followed) → ℕ → Followed
followed_after stroke was r = written_if (writes stroke r)
    (option_map_or (λ (m : MovedRows). shifted m.way m.first m.last freed was r) (moved_rows stroke) (was r))

-- rows none of which moved and in none of which a stroke writes
abbrev pub at_rest : List Followed
at_rest = list_by_index 1 24 (followed [])

-- of which row one of these rows came
abbrev pub row_from : List Followed → ℕ → Option ℕ
row_from rows r = (entry freed 1 rows r).from

-- the row of which one came, or itself where it was freed
abbrev pub came_from : Option ℕ → ℕ → ℕ
came_from None r = r
came_from (Some q) r = q

-- ---- rows that are altered of themselves

-- the stroke may do more than write in one row
abbrev pub does_more : Stroke → Bool
does_more (strokes.Put place cell) = false
does_more (strokes.Erase row from) = false
does_more _ = true

-- row r has other attributes than row q before, or the screen has, or just one of the two rows is last
unfoldable pub has_others : Pens → Edges → ℕ → Pens → Edges → ℕ → Bool
has_others was before q now after r =
    not (same_pen (row_pen_in was.rows q) (row_pen_in now.rows r)) || not (same_pen was.screen now.screen)
    || just_one (is_last before q) (is_last after r)

-- attributes of all rows and of the screen, a valid page, and whether it has other attributes of the screen
pub record AreCompared (was : Pens) (p : Page) (other : Bool) : Type 0 where
  pub rows : length was.rows ≡ 24
  pub valid : IsValidPage p
  pub screen : other ≡ not (same_pen was.screen p.screen_pen)

-- a row that was freed is altered; any other where a stroke writes in it, one defines something, or it has others
abbrev pub is_altered_from : Bool → Bool → Pens → Edges → Pens → Edges → Option ℕ → ℕ → Bool
is_altered_from written defined was before now after None r = true
is_altered_from written defined was before now after (Some q) r =
    written || defined || has_others was before q now after r

-- row r is altered of itself by strokes that lead from these attributes and edges to those
unfoldable pub is_altered : List Stroke → Pens → Edges → Pens → Edges → ℕ → Bool
is_altered strokes was before now after r =
    is_altered_from (is_written strokes r) (list_any defines strokes) was before now after (row_before strokes r) r

-- ---- rows that are due

-- what covers a row that came of this one from above is other than before
abbrev pub is_covered_from : List (List Look) → Option ℕ → List (List Look) → ℕ → Bool
is_covered_from was None now r = true
is_covered_from was (Some q) now r = is_covered_otherwise was q now r

-- row r is due, where these rows are flagged and so followed, and these were and are the looks: it is flagged, or covered
-- otherwise
abbrev pub is_due : List Bool → List Followed → List (List Look) → List (List Look) → ℕ → Bool
is_due flags rows was now r = entry false 1 flags r || is_covered_from was (row_from rows r) now r

-- how many rows of the screen are due
unfoldable pub rows_due : List Bool → List Followed → List (List Look) → List (List Look) → ℕ
rows_due flags rows was now = count_by (is_due flags rows was now) (range_with_len 1 24)

-- to the left of a column row `first` looks as it did, and each row further down to the left of one column less
abbrev pub LeftStays : ℕ → ℕ → List (List Look) → Core → Type 0
LeftStays first from was k =
    (r c : ℕ) → OnScreen r c → c + r < from + first → value_at blank_look was r c ≡ look k r c

-- around column c two grids have the same looks in row r
abbrev pub AreSameAround : List (List Look) → List (List Look) → ℕ → ℕ → Type 0
AreSameAround was now r c = (d : ℕ) → c ≤ d + 1 → d ≤ c + 1 → look_seen was r d ≡ look_seen now r d

-- beneath looks that are as they were a place looks as it did, where its left neighbour covers it as much as before; in
-- row `first` to the right of this column
abbrev pub FollowsBeside : ℕ → ℕ → List (List Look) → Core → Type 0
FollowsBeside first until was k =
    (r c : ℕ) → OnScreen r c → (r ≡ first → until < c) → AreSameAround was (looks_of k) (r - 1) c
    → IsCoveredAlike (look_seen was r (c - 1)) (look_seen (looks_of k) r (c - 1))
    → value_at blank_look was r c ≡ look k r c

-- each row that isn't due looks as the row did of which it came
abbrev pub OtherRowsStay : List Bool → List Followed → List (List Look) → Core → Type 0
OtherRowsStay flags rows was k =
    (r q c : ℕ) → OnScreen r c → is_due flags rows was (looks_of k) r ≡ false → row_from rows r ≡ Some q
    → value_at blank_look was q c ≡ look k r c
