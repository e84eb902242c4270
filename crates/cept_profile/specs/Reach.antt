-- Rows that a command reaches (own): a row is followed back through the strokes to the row of which it came. It is
-- reached where it was freed or is written, where its attributes or the screen's become others or it becomes last or is
-- so no longer, where something that it names is defined anew, or where what covers it from above is other than before.
use Rattle.std.specs.Prelude.{ℕ, ◌≡◌, Bool, true, false, ◌==◌, ◌||◌, ◌&&◌, not, Option, Some, None, List, [], ◌∷◌}
use Rattle.std.specs.List.{AllByRecursion, count_by, list_any, range_with_len}
use Rattle.cept_codes.specs.declared.command.Command.{Command}
use Rattle.cept_codes.specs.declared.stroke.Stroke.{Stroke}
use Rattle.cept_codes.specs.declared.stroke.Stroke.TheVariants as strokes
use Rattle.cept_codes.specs.Same.{same_pen}
use Rattle.cept_codes.specs.Stroke.{IsValidStroke}
use Rattle.cept_profile.specs.Edges.{edges_of_core, is_last}
use Rattle.cept_profile.specs.Look.{looks_of}
use Rattle.cept_profile.specs.MovedRows.{row_before}
use Rattle.cept_profile.specs.Names.{names_dclut, names_entry, names_pattern, names_some_pattern}
use Rattle.cept_profile.specs.PageParts.{row_pen_in}
use Rattle.cept_profile.specs.RowsFromAbove.{is_covered_otherwise}
use Rattle.cept_profile.specs.State.{Core, State, core_of, page_after, state_after}
use Rattle.cept_profile.specs.Strokes.{strokes_of}
use Rattle.cept_profile.specs.Valid.{IsValidPage}

-- valid strokes lead from a core with a valid page to this one
pub record LeadsTo (before after : Core) (strokes : List Stroke) : Type 0 where
  pub valid : IsValidPage before.page
  pub each : AllByRecursion IsValidStroke strokes
  pub page : after.page ≡ page_after before.page strokes

-- ---- written rows

-- the stroke names row r, to put a cell in it or to erase its end, or wipes all rows
abbrev pub writes : Stroke → ℕ → Bool
writes (strokes.Put p cell) r = p.row == r
writes (strokes.Erase row from) r = row == r
writes strokes.Wipe r = true
-- any other writes in no row
writes _ r = false

-- the same of the row where a row then stands; of one that was freed nothing is asked
abbrev pub writes_where : Stroke → Option ℕ → Bool
writes_where stroke None = false
writes_where stroke (Some q) = writes stroke q

-- one of the strokes, in order, writes in row r after them, in the row where it then stands
unfoldable pub is_written : List Stroke → ℕ → Bool
is_written [] r = false
is_written (stroke ∷ more) r = writes_where stroke (row_before more r) || is_written more r

-- ---- other attributes

-- just one of two holds
abbrev pub just_one : Bool → Bool → Bool
just_one a b = (a && not b) || (b && not a)

-- row r of the core after has other attributes than row q of the core before, or its screen than that one's, or just one
-- of the two rows is last
unfoldable pub has_other_attributes : Core → ℕ → Core → ℕ → Bool
has_other_attributes before q after r =
    not (same_pen (row_pen_in before.page.row_pens q) (row_pen_in after.page.row_pens r))
    || not (same_pen before.page.screen_pen after.page.screen_pen)
    || just_one (is_last (edges_of_core before) q) (is_last (edges_of_core after) r)

-- ---- names defined anew

-- the stroke sets or clears a colour entry, an entry of the DCLUT or a pattern that row r of a core names; the defaults of
-- colours set all entries, and each row names some
abbrev pub redefines : Core → ℕ → Stroke → Bool
redefines k r (strokes.Colour i paint) = names_entry k r i
redefines k r (strokes.Dclut j entry) = names_dclut k r j
redefines k r strokes.ColourDefaults = true
redefines k r (strokes.Drcs code pattern) = names_pattern k r code
redefines k r strokes.DrcsClear = names_some_pattern k r
-- any other defines nothing
redefines k r _ = false

-- one of the strokes sets or clears something that the row names
unfoldable pub is_redefined : Core → List Stroke → ℕ → Bool
is_redefined k strokes r = list_any (redefines k r) strokes

-- ---- reached rows

-- row r of the core after, which came of this row of the core before or was freed, is reached
abbrev pub is_reached_from : Core → Core → List Stroke → Option ℕ → ℕ → Bool
is_reached_from before after strokes None r = true
is_reached_from before after strokes (Some q) r =
    is_written strokes r || has_other_attributes before q after r || is_redefined after strokes r
    || is_covered_otherwise (looks_of before) q (looks_of after) r

-- strokes that lead from one core to the other reach row r
unfoldable pub is_reached : Core → Core → List Stroke → ℕ → Bool
is_reached before after strokes r = is_reached_from before after strokes (row_before strokes r) r

-- in this state the command reaches row r
unfoldable pub reaches : State → Command → ℕ → Bool
reaches s command r = is_reached (core_of s) (core_of (state_after s command)) (strokes_of s.control command) r

-- how many rows of the screen it reaches
unfoldable pub rows_in_reach : State → Command → ℕ
rows_in_reach s command = count_by (reaches s command) (range_with_len 1 24)
