-- The laws of this crate in proofs above it: each name is a clause of a public function of src/law/, but for the
-- strokes of motions, and nothing else of these proofs is seen outside.

-- ---- the_first_grid
pub use Rattle.cept_profile.proofs.FirstGrid.{look_of-blank_cell, grid-none}
-- ---- attributes_go_with_carried_rows
pub use Rattle.cept_profile.proofs.CarriedRows.{row_pen_after-carried}
-- ---- one_more_command
pub use Rattle.cept_profile.proofs.OneMoreState.{state-one_more}
-- ---- validity_is_kept
pub use Rattle.cept_profile.proofs.ValidControl.{IsValidControl-control_after}
pub use Rattle.cept_profile.proofs.ValidState.{IsValidState-start, IsValidState-state_after, IsValidCore-core_of}
-- ---- strokes_are_valid
pub use Rattle.cept_profile.proofs.OneMoreState.{IsValidStroke-strokes_of}
pub use Rattle.cept_profile.proofs.ValidPage.{length-strokes_of}
-- ---- looks_are_valid
pub use Rattle.cept_profile.proofs.ValidLook.{IsValidFull-cascade, IsValidLook-look_of, IsValidLook-look_in_row, IsValidGrid-looks_of}
pub use Rattle.cept_profile.proofs.ValidLook.{AreValidDefinitions-page, IsValidLook-row_from_above}
-- ---- painting_the_changes, each_command_is_shown
pub use Rattle.cept_profile.proofs.PaintedPlaces.{grid_with_paints-append}
pub use Rattle.cept_profile.proofs.ListOfChanges.{grid_with_paints-changes, changes_between-same}
pub use Rattle.cept_profile.proofs.ListOfChanges.{grid_with_paints-changes_between}
-- ---- marked_places_in_order
pub use Rattle.cept_profile.proofs.MarkedPlaces.{marked_looks_below-none, marked_looks_below-next}
pub use Rattle.cept_profile.proofs.MarkedPlaces.{marked_looks_below-unmarked, marked_looks_below-rest}
pub use Rattle.cept_profile.proofs.MarkedPlaces.{marked_looks_below-whole}
-- ---- copies_are_written_in_turn
pub use Rattle.cept_profile.proofs.CopiesOfSigns.{effect_of_copies-none, effect_of_copies-more}
pub use Rattle.cept_profile.proofs.CopiesOfSigns.{length-strokes_of_copies, length-strokes_of_copies-unscrolled}
-- ---- what a command makes of control, and its strokes: names of the halves of effects
pub use Rattle.cept_profile.proofs.Halves.{above_strokes, back_strokes, below_strokes, columns_of_sign, control_after_copies}
pub use Rattle.cept_profile.proofs.Halves.{control_after_service, control_effect, effect_of_repeat, flashing, on_strokes}
pub use Rattle.cept_profile.proofs.Halves.{revealing, strokes_of_copies, strokes_of_function, strokes_of_marker, strokes_of_read, strokes_of_repeat}
pub use Rattle.cept_profile.proofs.Halves.{strokes_of_sign, strokes_when, working_after_function, working_after_marker}
pub use Rattle.cept_profile.proofs.Halves.{working_after_read, working_after_repeat, working_after_sign, working_ahead}
-- ---- each motion by where it may go
pub use Rattle.cept_profile.proofs.MotionStrokes.{above-at, ahead-at, back-at, below-at}
pub use Rattle.cept_profile.proofs.MotionStrokes.{by_above_strokes, by_back_strokes, by_below_strokes, by_on_strokes}
-- ---- rows_that_are_not_reached_keep_their_looks
pub use Rattle.cept_profile.proofs.RowsReached.{look-not_reached, row_before-not_reached, reaches-by}
pub use Rattle.cept_profile.proofs.RowsReached.{rows_in_reach-counted, rows_in_reach-le}
-- ---- rows_that_strokes_do_not_reach_keep_their_looks
pub use Rattle.cept_profile.proofs.RowsReached.{LeadsTo-state_after, look-unreached, row_before-unreached, is_reached-by}
-- ---- rows_come_with_their_cells
pub use Rattle.cept_profile.proofs.RowsReached.{cell-from}
pub use Rattle.cept_profile.proofs.RowsMoved.{row_before-on}
-- ---- rows_come_with_their_parts_and_names
pub use Rattle.cept_profile.proofs.RowsReached.{part_at-unreached, names_at-unreached}
pub use Rattle.cept_profile.proofs.NamesOfRows.{is_redefined-unreached}
-- ---- rows_that_do_not_move
pub use Rattle.cept_profile.proofs.RowsMoved.{row_before-still, is_written-still}
-- ---- names_come_from_above_or_the_left, looks_show_the_parts, the_first_names
pub use Rattle.cept_profile.proofs.FirstNames.{names_at-first}
pub use Rattle.cept_profile.proofs.NamesFromAbove.{names_at-lower, names_at-right, names_at-itself, names_at-from_above}
pub use Rattle.cept_profile.proofs.NamesFromAbove.{names_at-covered}
pub use Rattle.cept_profile.proofs.RowsAlike.{part_of-seen}
-- ---- exactly_one_row_is_tiled, exactly_one_table_is_tiled, parts_are_valid
pub use Rattle.cept_profile.proofs.TiledTables.{
  IsTiledRow-tiled_row,
  IsTiledRow-only,
  IsTiled-tiled_table,
  IsTiled-only,
}
pub use Rattle.cept_profile.proofs.TiledTables.{tiled_row-beneath, IsValidPart-part_at, OnScreen-origin}
-- ---- the_parts_of_a_core_are_the_tiled_ones
pub use Rattle.cept_profile.proofs.LooksFromAbove.{tiled_parts, tiled_parts-only, look-by_origin, origin-on_screen}
-- ---- looks_come_from_above_or_the_left
pub use Rattle.cept_profile.proofs.LooksFromAbove.{look-above, look-left, look-itself, looks_in-from_above}
-- ---- rows_stay_under_what_covers_them
pub use Rattle.cept_profile.proofs.LooksFromAbove.{row_from_above-same, looks_in-same, covering-same}
-- ---- rows_of_single_size_cover_nothing
pub use Rattle.cept_profile.proofs.LooksFromAbove.{covers_nothing, covers_nothing-first, look-single}
-- ---- motions make no strokes while no area scrolls: no clause says it, since it will not stay
pub use Rattle.cept_profile.proofs.MotionStrokes.{on_strokes-none}
-- ---- one_more_cell, without_markers
pub use Rattle.cept_profile.proofs.OneMoreCell.{influence-start, influence-suc, serial_attributes-suc, held_sign-suc, in_plain}
pub use Rattle.cept_profile.proofs.OneMoreCell.{unmarked}
-- ---- serial_attributes_are_valid
pub use Rattle.cept_profile.proofs.MarkersInForce.{serial_attributes-valid}
-- ---- looks_depend_on_cells_to_the_left, the_page_and_the_edges_are_seen
pub use Rattle.cept_profile.proofs.LooksInRows.{look_in_row-alike, size_in_row-alike, look_in_row-unmarked}
pub use Rattle.cept_profile.proofs.LooksInRows.{size_in_row-single, looks_of-alike}
-- ---- codes_give_signs_or_accents
pub use Rattle.cept_profile.proofs.CodesRead.{IsCode-code_of, IsValidRead-read_as, read_as-accent}
-- ---- nothing_noted_unwinds_nothing
pub use Rattle.cept_profile.proofs.OldValues.{unwound-begun, unwound-none}
-- ---- noting_leaves_what_is_unwound_to
pub use Rattle.cept_profile.proofs.OldValues.{page_unwound-differ, unwound-with_control}
-- ---- noted_strokes_leave_what_is_unwound_to
pub use Rattle.cept_profile.proofs.NotedStrokes.{IsAfter, page_unwound-stroke, unwound-with_command}

-- what a function that reads a code needs
pub ruleset readings = (IsCode-code_of, IsValidRead-read_as, read_as-accent)
