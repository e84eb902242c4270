-- Rows that may have to be resolved where old values are put back (this project's own): those of which an old value is
-- noted, all where one is noted by which any row may look, those that are last only before or only after, and those that
-- are covered from above otherwise than before.
use Rattle.std.specs.Prelude.{ℕ, ◌||◌, Bool, List}
use Rattle.std.specs.List.{count_by, range_with_len}
use Rattle.cept_codes.specs.declared.look.Look.{Look}
use Rattle.cept_delta.specs.Noted.{notes_row, notes_screen}
use Rattle.cept_profile.specs.Edges.{Edges, is_last}
use Rattle.cept_profile.specs.OldValues.{OldValues}
use Rattle.cept_profile.specs.Reach.{just_one}
use Rattle.cept_profile.specs.RowsFromAbove.{is_covered_otherwise}

-- row r may look otherwise of itself where old values lead back between states with these edges: it is noted, the screen
-- is, or the row is last in just one of the states
unfoldable pub is_unwound : OldValues → Edges → Edges → ℕ → Bool
is_unwound old before after r = notes_row old r || notes_screen old || just_one (is_last before r) (is_last after r)

-- how many rows may look otherwise of themselves or are covered otherwise, where these were and are the looks
unfoldable pub rows_unwound : OldValues → Edges → Edges → List (List Look) → List (List Look) → ℕ
rows_unwound old before after was now =
    count_by (λ r. is_unwound old before after r || is_covered_otherwise was r now r) (range_with_len 1 24)
