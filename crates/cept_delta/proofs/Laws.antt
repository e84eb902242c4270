-- The laws of this crate in proofs above it: each is a clause of a public function of src/law.rt, and nothing else of
-- these proofs is seen outside.
pub use Rattle.cept_delta.proofs.ExchangedStates.{HasSameLocations-exchanged, HasSameLocations-page, exchanged-twice}
pub use Rattle.cept_delta.proofs.ExchangedStates.{unwound-exchanged}
pub use Rattle.cept_delta.proofs.NoneNoted.{entry_none, unnoted}
pub use Rattle.cept_delta.proofs.UnnotedRows.{cell_stays, pen_stays}
