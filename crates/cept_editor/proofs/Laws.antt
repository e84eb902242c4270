-- The laws of this crate in proofs above it: each is a clause of a public function of src/law.rt, and nothing else of
-- these proofs is seen outside.
pub use Rattle.cept_editor.proofs.MadeEvents.{report-append, report-one, report-none, paints-append, paints-one}
pub use Rattle.cept_editor.proofs.MadeEvents.{paints-none, no_paint, ArePainted-none, ArePainted-still, ArePainted-more}
pub use Rattle.cept_editor.proofs.MadeEvents.{still_append, AreMade-none, AreMade-more, AreMade-end, AreCutOff-here}
pub use Rattle.cept_editor.proofs.MadeEvents.{AreCutOff-longer, AreCutOff-end, cut_untouched, event_shown}
pub use Rattle.cept_editor.proofs.MadeEvents.{AreMade-append, AreCutOff-after}
pub use Rattle.cept_editor.proofs.EditsInTurn.{kept-none, kept-more, kept-few, remaining-none, states_before-none}
pub use Rattle.cept_editor.proofs.EditsInTurn.{states_again-none, line_shown}
pub use Rattle.cept_editor.proofs.KeptStates.{StandsAfter-start}
pub use Rattle.cept_editor.proofs.StatesInTurn.{editor_after-steps}
pub use Rattle.cept_editor.proofs.LinesByStates.{StandsAfter-step, paints-step}
pub use Rattle.cept_editor.proofs.UndoRedoStates.{idle_undo_redo}
