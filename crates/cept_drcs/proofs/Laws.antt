-- The laws of this crate in proofs above it: each name is a clause of a public function of src/law/, and nothing else
-- of these proofs is seen outside.

-- ---- patterns_begin_with_30
pub use Rattle.cept_drcs.proofs.Reading.{starts, some_plane, no_pattern}
-- ---- beginnings_of_patterns_are_patterns, patterns_grow_where_a_byte_fits
pub use Rattle.cept_drcs.proofs.Reading.{beginning}
pub use Rattle.cept_drcs.proofs.Growing.{longer, no_longer, grows_by_last}
-- ---- patterns_have_at_most_100_bytes
pub use Rattle.cept_drcs.proofs.Counting.{unit_length, hundred}
-- ---- patterns_are_valid
pub use Rattle.cept_drcs.proofs.ValidPatterns.{unit_valid}
-- ---- pixels_are_bits_of_lines
pub use Rattle.cept_drcs.proofs.Pixels.{pixel_drawn}
-- ---- bytes_one_by_one_give_the_pattern
pub use Rattle.cept_drcs.proofs.Bridge.{unit_loads}
pub use Rattle.cept_drcs.proofs.Reading.{loads_one, takes_is, leads_more, leads_none}
pub use Rattle.cept_drcs.proofs.Numbers.{pattern_led}
pub use Rattle.cept_drcs.proofs.ValidPatterns.{led_valid}
-- ---- full_states_take_no_byte
pub use Rattle.cept_drcs.proofs.Growing.{full_units, full_grows}
-- ---- numbers_in_words
pub use Rattle.cept_drcs.proofs.WordBits.{bit_of-words, clear_behind}
