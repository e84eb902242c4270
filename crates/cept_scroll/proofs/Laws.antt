-- The laws of this crate in proofs above it: each is a clause of a public function of src/law.rt, and nothing else of
-- these proofs is seen outside.
pub use Rattle.cept_scroll.proofs.Orders.{by_row-first, by_row-turned, by_row-with_slot}
pub use Rattle.cept_scroll.proofs.RowsInOrder.{AreInSlots-set, AreInSlots-turned, IsTable-rows, row_read, row_written}
pub use Rattle.cept_scroll.proofs.RowsInOrder.{rows_in_order-first, rows_in_order-turned}
pub use Rattle.cept_scroll.proofs.SlotsHeld.{slot_held}
