-- The laws of this crate in proofs above it: each is a clause of a public function of src/law.rt, and nothing else of
-- these proofs is seen outside.
pub use Rattle.cept_redraw.proofs.RedefinedRows.{AreNamed-alike}
pub use Rattle.cept_redraw.proofs.Refreshed.{differences_none}
pub use Rattle.cept_redraw.proofs.RowsOfLooks.{look_seen-at}
pub use Rattle.cept_redraw.proofs.RowsRenewed.{rows_renewed-none}
pub use Rattle.cept_redraw.proofs.Unmarked.{is_marked-no_marks}
pub use Rattle.cept_redraw.proofs.WalkedRows.{AreLooksOn-one}
