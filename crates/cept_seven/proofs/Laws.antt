-- The laws of this crate in proofs above it: each is a clause of a public function of src/law.rt, and nothing else of
-- these proofs is seen outside.
pub use Rattle.cept_seven.proofs.MoreLemmas.{seven_begins, eight_begins, front_accepted}
