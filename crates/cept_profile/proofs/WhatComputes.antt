-- What worked cases compute with: where its name stands on a line `unfolding`, each definition of its own line unfolds.
use Rattle.cept_codes.specs.Table.{table, row_of, list_by_index}
use Rattle.cept_profile.specs.Cells.{cells_after_all}
use Rattle.cept_profile.specs.Changes.{differences, marked_looks}
use Rattle.cept_profile.specs.Colours.{default_paints}
use Rattle.cept_profile.specs.Definitions.{inks_of}
use Rattle.cept_profile.specs.Look.{look_of, size_in_row, look, look_in_row}
use Rattle.cept_profile.specs.MovedRows.{row_before}
use Rattle.cept_profile.specs.Names.{full_attributes, contents_at_origin, names_entry, names_dclut, names_pattern, names_some_pattern}
use Rattle.cept_profile.specs.NamesFromAbove.{names_from_above, names_in_row}
use Rattle.cept_profile.specs.NotedStrokes.{with_strokes}
use Rattle.cept_profile.specs.PageParts.{part_after_all}
use Rattle.cept_profile.specs.Reach.{is_written, has_other_attributes, is_redefined, is_reached, reaches}
use Rattle.cept_profile.specs.RowsFromAbove.{is_covered_otherwise}
use Rattle.cept_profile.specs.Serial.{serial_attributes, is_holding, kept_sign}
use Rattle.cept_profile.specs.Sets.{set_of, read_as}
use Rattle.cept_profile.specs.Tiling.{tiled_table, tiled_rows, tiled_row, part_from}
use Rattle.cept_profile.specs.Writing.{effect_of_copies}

unfoldable pub computing : Unit {0}
unfolding table row_of set_of read_as differences marked_looks look_of default_paints list_by_index
    effect_of_copies row_before size_in_row serial_attributes is_holding
    kept_sign tiled_table tiled_rows tiled_row part_from full_attributes contents_at_origin names_from_above
    names_in_row cells_after_all part_after_all with_strokes look look_in_row inks_of is_written has_other_attributes
    is_redefined is_covered_otherwise is_reached reaches names_entry names_dclut names_pattern names_some_pattern
computing = tt
