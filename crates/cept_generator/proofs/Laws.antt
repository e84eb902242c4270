-- The laws of this crate in proofs above it: each is a clause of a public function of src/law.rt, and nothing else of
-- these proofs is seen outside.
pub use Rattle.cept_generator.proofs.UnitsRead.{page_reads, page_unrefused, page_said, page_commands}
pub use Rattle.cept_generator.proofs.UnitsMeasured.{page_valid, page_bytes, page_length, page_items}
