-- The laws of this crate in proofs above it: each name is a clause of a public function of src/law.rt, but for what items
-- say in parts.
pub use Rattle.cept_live.proofs.BytesFed.{Feeds-append, HasFed-begun, TellsAll-append}
pub use Rattle.cept_live.proofs.DisplaysKept.{begun-phase, begun-shown, ended-shown, fed-shown, shown-kept, shown-start}
pub use Rattle.cept_live.proofs.DisplaysKept.{shown-unflashed}
pub use Rattle.cept_live.proofs.ItemsTaken.{commands_of-more, sayings_after-append, sayings_after-none, sayings_after-one}
pub use Rattle.cept_live.proofs.LinesOfItems.{lines_of-changes, lines_of-command, lines_of-item, lines_of-items, lines_of-refusal}
pub use Rattle.cept_live.proofs.LinesKept.{StandsAfter-ended, edited, made-by}
