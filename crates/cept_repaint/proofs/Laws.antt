-- The laws of this crate in proofs above it: each is a clause of a public function of src/law.rt, and nothing else of
-- these proofs is seen outside.
pub use Rattle.cept_repaint.proofs.CommandsInTurn.{
  state_after_all-append,
  rows_in_reach_of_all-append,
  rows_renewed_by_all-append,
}
pub use Rattle.cept_repaint.proofs.CommandsInTurn.{state-after_all, IsValidState-state_after_all}
