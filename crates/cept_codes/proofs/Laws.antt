-- The laws of this crate in proofs above it: each is a clause of a public function of src/law, and nothing else of
-- these proofs is seen outside.
pub use Rattle.cept_codes.proofs.Lists.{length-list_by_index, entry-list_by_index, entry_from, entry_below}
pub use Rattle.cept_codes.proofs.Lists.{entry_past, same_lists}
pub use Rattle.cept_codes.proofs.Lists.{list_by_index-entry, same_indexed, set-entry}
pub use Rattle.cept_codes.proofs.Lists.{indexed_none, indexed_more, HasMadeEntries-none, HasMadeEntries-more}
pub use Rattle.cept_codes.proofs.Lists.{HasMadeEntries-all}
pub use Rattle.cept_codes.proofs.Tables.{value_at-table, IsTable-table, same_table, same_tables, table-value_at}
pub use Rattle.cept_codes.proofs.Tables.{set-value_at, set_is}
pub use Rattle.cept_codes.proofs.Tables.{row_of-list_by_index, table-list_by_index, rows_are, set_row_is}
pub use Rattle.cept_codes.proofs.Tables.{HasMadeRows-none, HasMadeRows-more, HasMadeRows-kept, HasMadeRows-all}
pub use Rattle.cept_codes.proofs.Places.{number-place_of, OnScreen-place_of, place_of-number, number-lt, number-ordered}
pub use Rattle.cept_codes.proofs.EqualityDecides.{look_decides}
