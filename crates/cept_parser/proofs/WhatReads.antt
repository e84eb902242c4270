-- What worked cases of reading compute with: where its name stands on a line `unfolding`, each definition of its own
-- line unfolds.
use Rattle.cept_drcs.specs.Block.{all_may_come, with_byte}
use Rattle.cept_drcs.specs.Cut.{blocks}
use Rattle.cept_drcs.specs.Unit.{are_blocks, blocks_number, is_pattern, lines_from, pattern_grows}
use Rattle.cept_parser.specs.Controls.{one_byte}
use Rattle.cept_parser.specs.Csi.{area, csi}
use Rattle.cept_parser.specs.Escape.{escape}
use Rattle.cept_parser.specs.Grammar.{csi_unit, fits, grows, repetition, unit}
use Rattle.cept_parser.specs.Items.{closing_items, front, longest_beginning_within, reading_by, reading_within}
use Rattle.cept_parser.specs.Runs.{colour, table_entry}
use Rattle.cept_parser.specs.Units.{colour_header, colour_start, colour_unit, drcs_form, drcs_header, drcs_unit}
use Rattle.cept_parser.specs.Units.{format, service_break, service_unit, us_position, us_unit}

unfoldable pub reading_computes : Unit {0}
unfolding with_byte all_may_come blocks are_blocks blocks_number is_pattern lines_from pattern_grows one_byte area csi
    escape csi_unit fits grows repetition unit closing_items front
    longest_beginning_within reading_by reading_within colour table_entry colour_header colour_start colour_unit
    drcs_form drcs_header drcs_unit format service_break service_unit us_position us_unit
reading_computes = tt
