-- Rows that strokes may resolve (this project's own): those that they reach; and all, where they define a colour entry,
-- an entry of the DCLUT or a pattern, and one of them defines nothing or the edges become others. Of all commands full
-- defaults alone make such strokes: they wipe every row, and so reach all.
use Rattle.std.specs.Prelude.{ℕ, Bool, true, false, not, ◌||◌, ◌&&◌, ◌==◌, List, Option, Some, None}
use Rattle.std.specs.List.{count_by, list_any, range_with_len}
use Rattle.cept_codes.specs.declared.stroke.Stroke.{Stroke}
use Rattle.cept_codes.specs.declared.stroke.Stroke.TheVariants as strokes
use Rattle.cept_profile.specs.Edges.{Edges, edges_of_core}
use Rattle.cept_profile.specs.Reach.{is_reached}
use Rattle.cept_profile.specs.State.{Core}

-- the stroke sets or clears a colour entry, an entry of the DCLUT or a pattern
abbrev pub defines : Stroke → Bool
defines (strokes.Colour i paint) = true
defines (strokes.Dclut j entry) = true
defines strokes.ColourDefaults = true
defines (strokes.Drcs code pattern) = true
defines strokes.DrcsClear = true
-- any other defines nothing
defines _ = false

-- one of the strokes defines nothing
unfoldable pub one_else : List Stroke → Bool
one_else strokes = list_any (λ stroke. not (defines stroke)) strokes

-- the same area, or none
abbrev pub is_same_area : Option (ℕ × ℕ) → Option (ℕ × ℕ) → Bool
is_same_area None None = true
is_same_area (Some area) (Some other) = area.0 == other.0 && area.1 == other.1
is_same_area _ _ = false

-- the same edges
abbrev pub are_same_edges : Edges → Edges → Bool
are_same_edges edges others = edges.rows == others.rows && is_same_area edges.area others.area

-- one of the strokes defines something, and one of them defines nothing or the edges before and after differ
unfoldable pub mixes : Edges → Edges → List Stroke → Bool
mixes before after strokes = list_any defines strokes && (one_else strokes || not (are_same_edges before after))

-- strokes that lead from one core to the other may resolve row r
unfoldable pub may_resolve : Core → Core → List Stroke → ℕ → Bool
may_resolve before after strokes r =
    is_reached before after strokes r || mixes (edges_of_core before) (edges_of_core after) strokes

-- how many rows of the screen they may resolve
unfoldable pub rows_resolved_by : Core → Core → List Stroke → ℕ
rows_resolved_by before after strokes = count_by (may_resolve before after strokes) (range_with_len 1 24)
