-- A page with the looks that are kept of it, and what it is for it to be redrawn, refreshed and restored (this project's
-- own).
use Rattle.std.specs.Prelude.{ℕ, ◌≡◌, ◌≤◌, ◌+◌, Bool, List, [], Option, Some, option_map}
use Rattle.std.specs.List.{AllByRecursion}
use Rattle.cept_codes.specs.declared.stroke.Stroke.{Stroke}
use Rattle.cept_codes.specs.Stroke.{IsValidStroke}
use Rattle.cept_profile.specs.Changes.{differences}
use Rattle.cept_profile.specs.Edges.{Edges, edges_of_core}
use Rattle.cept_profile.specs.MovedRows.{row_before}
use Rattle.cept_profile.specs.NotedStrokes.{with_strokes}
use Rattle.cept_profile.specs.OldValues.{OldValues, page_unwound}
use Rattle.cept_profile.specs.State.{Core, Page, page_after}
use Rattle.cept_profile.specs.Valid.{IsValidPage}
use Rattle.cept_page.specs.Behind.{page_behind}
use Rattle.cept_redraw.specs.declared.picture.Picture.{Picture}
use Rattle.cept_redraw.specs.Kept.{AreEdges, AreLooksOn, core_on}
use Rattle.cept_redraw.specs.Named.{AreNamedOn}
use Rattle.cept_redraw.specs.Renewed.{rows_renewed}
use Rattle.cept_redraw.specs.Resolved.{rows_resolved_by}
use Rattle.cept_redraw.specs.Restored.{rows_unwound}

-- the page is valid, the kept looks are those that it has with these edges, and so are the names that are known
pub record IsKeptOn (picture : Picture) (edges : Edges) : Type 0 where
  pub valid : IsValidPage picture.page
  pub of_core : AreEdges edges
  pub looks : AreLooksOn picture.looks picture.page edges
  pub named : AreNamedOn picture.names picture.page edges

-- ---- redrawn by strokes

-- strokes that may be drawn on a page: each is valid, so is the page after them, and none of its rows goes down by more
-- than one
pub record AreDrawable (strokes : List Stroke) (p : Page) : Type 0 where
  pub each : AllByRecursion IsValidStroke strokes
  pub valid : IsValidPage (page_after p strokes)
  pub low : (r q : ℕ) → 1 ≤ r → r ≤ 24 → row_before strokes r ≡ Some q → r ≤ q + 1

-- the strokes were drawn, after which the page has these edges; all is kept on it, and exactly the places whose look
-- changed are marked
pub record IsRedrawn (strokes : List Stroke) (edges : Edges) (was now : Picture) (marked : List Bool) : Type 0 where
  pub page : now.page ≡ page_after was.page strokes
  pub kept : IsKeptOn now edges
  pub marks : marked ≡ differences was.looks now.looks

-- so many rows were resolved: no more than the strokes may resolve where the edges lead from these to those, and no fewer
-- than they renew
pub record AreTicksOf (strokes : List Stroke) (before after : Edges) (was now : Picture) (from to : ℕ) : Type 0 where
  pub cost : (k m : Core) → edges_of_core k ≡ before → edges_of_core m ≡ after
      → to ≤ from + rows_resolved_by (core_on k was.page) (core_on m now.page) strokes
  pub least : from + rows_renewed strokes was.looks now.looks ≤ to

-- what the strokes change on a page was noted, where anything may be noted, and what the page unwinds to stays
pub record IsNotedAlong (strokes : List Stroke) (before : Option OldValues) (was : Page) (after : Option OldValues)
    (now : Page) : Type 0 where
  pub unwound : page_behind after now ≡ page_behind before was
  pub noted : after ≡ option_map (with_strokes was strokes) before

-- strokes that may be drawn on a picture, where the edges lead from these to those
pub record MayBeRedrawn (drawn : List Stroke) (before after : Edges) (picture : Picture) : Type 0 where
  pub kept : IsKeptOn picture before
  pub to : AreEdges after
  pub strokes : AreDrawable drawn picture.page

-- the strokes were drawn, so many rows resolved, and what the strokes change noted besides, where anything may be noted
pub record IsRedrawnAlong (strokes : List Stroke) (before after : Edges) (was now : Picture) (marked : List Bool)
    (from to : ℕ) (old new : Option OldValues) : Type 0 where
  pub redrawn : IsRedrawn strokes after was now marked
  pub ticks : AreTicksOf strokes before after was now from to
  pub noted : IsNotedAlong strokes old was.page new now.page

-- ---- restored

-- old values that may be put back on a picture, where the edges lead from these to those
pub record MayBeRestored (old : OldValues) (before after : Edges) (picture : Picture) : Type 0 where
  pub kept : IsKeptOn picture before
  pub to : AreEdges after
  pub valid : IsValidPage (page_unwound picture.page old)

-- old values were put back on the page, where the edges lead from these to those; all is kept on it, exactly the places
-- whose look changed are marked, and just the rows were resolved that may look otherwise
pub record IsRestored (old : OldValues) (before after : Edges) (was now : Picture) (marked : List Bool)
    (from to : ℕ) : Type 0 where
  pub page : now.page ≡ page_unwound was.page old
  pub kept : IsKeptOn now after
  pub marks : marked ≡ differences was.looks now.looks
  pub cost : to ≡ from + rows_unwound old before after was.looks now.looks
  pub least : from + rows_renewed [] was.looks now.looks ≤ to
