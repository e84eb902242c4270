-- The laws of this crate in proofs above it: each name is a clause of a public function of src/law.rt, and nothing else of
-- these proofs is seen outside.

-- ---- a_set_of_points_is_drawn
pub use Rattle.cept_plot.proofs.DrawnInTurn.{drawn_on}
-- ---- the_points_of_the_field_decide
pub use Rattle.cept_plot.proofs.DrawnCommands.{drawn_valid, drawn_same, point_after}
