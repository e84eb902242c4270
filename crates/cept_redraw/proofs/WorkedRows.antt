-- Worked cases of rows that are counted, by computing: those that are renewed, and those that may look otherwise after an
-- undo.
use Rattle.std.proofs.Common.{◌≡◌, ◌==◌, ◌&&◌, true, false, List, [], ◌∷◌, Some, None, map, refl}
use Rattle.std.specs.Prelude.{if◌then◌else◌}
use Rattle.cept_codes.specs.declared.look.Look.{Look}
use Rattle.cept_codes.specs.Look.{blank_look}
use Rattle.cept_codes.specs.Table.{list_by_index, row_of, table}
use Rattle.cept_delta.specs.Noted.{notes_row, notes_screen}
use Rattle.cept_profile.specs.Edges.{Edges}
use Rattle.cept_profile.specs.MovedRows.{row_before}
use Rattle.cept_profile.specs.OldValues.{no_old_values}
use Rattle.cept_profile.specs.RowsFromAbove.{is_covered_otherwise}
use Rattle.cept_redraw.specs.Renewed.{is_renewed_from, look_otherwise, rows_renewed}
use Rattle.cept_redraw.specs.Restored.{is_unwound, rows_unwound}

-- a row of blank looks, and one that is lined in its last column
abbrev blank_row : List Look
blank_row = row_of (λ _. blank_look)

abbrev lined_row : List Look
lined_row = row_of (λ c. if c == 40 then record blank_look { lined = true } else blank_look)

-- the last column counts, and a row that was freed is renewed however it looks
pub last_column_counts : look_otherwise (blank_row ∷ []) 1 (lined_row ∷ []) 1 ≡ true
unfolding row_of
last_column_counts = refl

pub same_row_stays : is_renewed_from (blank_row ∷ []) (Some 1) (blank_row ∷ []) 1 ≡ false
unfolding row_of
same_row_stays = refl

pub freed_row_is_renewed : is_renewed_from (blank_row ∷ []) None (blank_row ∷ []) 1 ≡ true
unfolding row_of
freed_row_is_renewed = refl

-- the last row counts
abbrev blank_grid : List (List Look)
blank_grid = table (λ _ _. blank_look)

abbrev lined_grid : List (List Look)
lined_grid = table (λ r c. if r == 24 && c == 40 then record blank_look { lined = true } else blank_look)

pub last_row_counts : rows_renewed [] blank_grid lined_grid ≡ 1
unfolding table row_of rows_renewed row_before
last_row_counts = refl

-- where nothing is noted and the edges stay no row may look otherwise
abbrev whole : Edges
whole = record { rows = 24; area = None }

pub nothing_noted : map (is_unwound no_old_values whole whole) (1 ∷ 12 ∷ 24 ∷ []) ≡ false ∷ false ∷ false ∷ []
unfolding is_unwound notes_row notes_screen table row_of list_by_index
nothing_noted = refl

-- and over looks and edges that stay none is resolved
pub none_unwound : rows_unwound no_old_values whole whole blank_grid blank_grid ≡ 0
unfolding rows_unwound is_unwound is_covered_otherwise notes_row notes_screen table row_of list_by_index
none_unwound = refl

-- what covers a row counts, and the last row does
abbrev high_grid : List (List Look)
high_grid = table (λ r c. if r == 23 && c == 40 then record blank_look { h = 2 } else blank_look)

pub covered_row_unwound : rows_unwound no_old_values whole whole blank_grid high_grid ≡ 1
unfolding rows_unwound is_unwound is_covered_otherwise notes_row notes_screen table row_of list_by_index
covered_row_unwound = refl

-- where the edges become others, the rows that are last in just one of the two states
pub last_rows_unwound : rows_unwound no_old_values whole (record { rows = 20; area = None }) blank_grid blank_grid ≡ 4
unfolding rows_unwound is_unwound is_covered_otherwise notes_row notes_screen table row_of list_by_index
last_rows_unwound = refl
