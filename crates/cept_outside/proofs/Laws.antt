-- The laws of this crate in proofs above it: each is a clause of a public function of src/law.rt, and nothing else of
-- these proofs is seen outside.
pub use Rattle.cept_outside.proofs.PartsOfTexts.{Gains-nil, Gains-append, HasPut-nothing, HasPut-more}
pub use Rattle.cept_outside.proofs.PartsOfTexts.{HasPut-part, count_after-nil, count_after-more}
pub use Rattle.cept_outside.proofs.PartsOfTexts.{append_known-nil, append_known-append_known, left_after, all_taken}
