-- What private clauses say beside `Picture` (this project's own).
use Rattle.std.specs.Prelude.{ℕ, ◌≡◌, ◌≤◌, ◌+◌, ◌-◌, ◌==◌, Bool, List}
use Rattle.cept_codes.specs.declared.look.Look.{Look}
use Rattle.cept_codes.specs.declared.stroke.Stroke.{Stroke}
use Rattle.cept_codes.specs.Table.{list_by_index}
use Rattle.cept_profile.specs.Changes.{differences}
use Rattle.cept_profile.specs.Edges.{Edges, edges_of_core}
use Rattle.cept_profile.specs.RowsFromAbove.{looks_in}
use Rattle.cept_profile.specs.State.{Core, Page}
use Rattle.cept_profile.specs.Valid.{IsValidPage}
use Rattle.cept_page.specs.Parts.{pens_of}
use Rattle.cept_redraw.specs.declared.followed_rows.Followed.{Followed}
use Rattle.cept_redraw.specs.declared.picture.Picture.{Picture}
use Rattle.cept_redraw.specs.inside.Due.{at_rest, followed, is_altered, rows_due}
use Rattle.cept_redraw.specs.inside.Due.{FollowsBeside, LeftStays, OtherRowsStay}
use Rattle.cept_redraw.specs.Kept.{AreEdges, AreLooksOn, core_on}
use Rattle.cept_redraw.specs.inside.Kept.{IsRefreshedRow, is_other_above, row_beneath}
use Rattle.cept_redraw.specs.inside.Named.{AreJustRemembered, IsStill}
use Rattle.cept_redraw.specs.Marks.{no_marks}

-- ---- refreshed

-- all but looks, and room for them, is as it was
pub record HasSameRest (was now : Picture) : Type 0 where
  pub page : now.page ≡ was.page
  pub names : now.names ≡ was.names

-- on a valid page with these edges each row that isn't due looks as that did of which it came, where these rows are
-- flagged and so followed, and these looks stood before
pub record AreOthersKept (flags : List Bool) (rows : List Followed) (stood : List (List Look)) (p : Page)
    (edges : Edges) : Type 0 where
  pub valid : IsValidPage p
  pub of_core : AreEdges edges
  pub stay : (k : Core) → edges_of_core k ≡ edges → OtherRowsStay flags rows stood (core_on k p)

-- to the left of one column row `first` looks as it did, and to the right of another where nothing covers it otherwise;
-- so do the rows below it, each to the left of one column less
pub record StaysAround (first from until : ℕ) (picture : Picture) (edges : Edges) : Type 0 where
  pub left : (k : Core) → edges_of_core k ≡ edges → LeftStays first from picture.looks (core_on k picture.page)
  pub beside : (k : Core) → edges_of_core k ≡ edges → FollowsBeside first until picture.looks (core_on k picture.page)

-- the looks are those of the page with these edges again, the places are marked where these differ from those that stood
-- before, and each row that is due was resolved and no other
pub record IsRefreshedOn (flags : List Bool) (rows : List Followed) (stood : List (List Look)) (edges : Edges)
    (now : Picture) (marked : List Bool) (from to : ℕ) : Type 0 where
  pub looks : AreLooksOn now.looks now.page edges
  pub marks : marked ≡ differences stood now.looks
  pub cost : to ≡ from + rows_due flags rows stood now.looks

-- row r was resolved, as the last one or not, with one tick, and all else stays; what covers the row below differs or not
pub record IsRowRenewed (r : ℕ) (last : Bool) (was now : Picture) (before marked : List Bool) (covers : Bool)
    (from to : ℕ) : Type 0 where
  pub rest : HasSameRest was now
  pub refreshed : IsRefreshedRow (row_beneath (looks_in was.looks (r - 1)) was.page r last) r was.looks now.looks before
      marked
  pub covering : covers ≡ is_other_above (looks_in was.looks r) (looks_in now.looks r)
  pub tick : to ≡ from + 1

-- nothing is marked yet, and each row that isn't due looks as that did of which it came
pub record MayBeRefreshed (flags : List Bool) (rows : List Followed) (picture : Picture) (edges : Edges)
    (marked : List Bool) : Type 0 where
  pub none : marked ≡ no_marks
  pub others : AreOthersKept flags rows picture.looks picture.page edges

-- the looks were refreshed and all else stays
pub record AreLooksRefreshed (flags : List Bool) (rows : List Followed) (edges : Edges) (was now : Picture)
    (marked : List Bool) (from to : ℕ) : Type 0 where
  pub rest : HasSameRest was now
  pub refreshed : IsRefreshedOn flags rows was.looks edges now marked from to

-- just one row of those at rest is flagged
abbrev pub just_row : ℕ → List Bool
just_row row = list_by_index 1 24 (λ r. row == r)

-- nothing is marked yet, one row alone may look otherwise of itself, and that from one column on and to another
pub record MayBeRefreshedDown (row from until : ℕ) (picture : Picture) (edges : Edges)
    (marked : List Bool) : Type 0 where
  pub from_top : 1 ≤ row
  pub to_bottom : row ≤ 24
  pub from_left : 1 ≤ from
  pub to_right : from ≤ 40
  pub none : marked ≡ no_marks
  pub around : StaysAround row from until picture edges
  pub others : AreOthersKept (just_row row) at_rest picture.looks picture.page edges

-- ---- redrawn row by row

-- for each row from the top, whether strokes that lead from one page and its edges to another alter it
abbrev pub rows_altered : List Stroke → Page → Edges → Page → Edges → List Bool
rows_altered strokes was before now after =
    list_by_index 1 24 (is_altered strokes (pens_of was) before (pens_of now) after)

-- the rows followed through strokes, from the top
abbrev pub rows_followed : List Stroke → List Followed
rows_followed strokes = list_by_index 1 24 (followed strokes)

-- strokes were redrawn by rows, where the edges lead from these to those: each row that is due was resolved and no other,
-- and the names stay known of each row that is still and of no other
pub record AreRowsRedrawn (strokes : List Stroke) (before after : Edges) (was now : Picture) (marked : List Bool)
    (from to : ℕ) : Type 0 where
  pub cost : to ≡ from
      + rows_due (rows_altered strokes was.page before now.page after) (rows_followed strokes) was.looks now.looks
  pub remembered : AreJustRemembered was.names now.names
      (IsStill (rows_altered strokes was.page before now.page after) (rows_followed strokes) marked)
