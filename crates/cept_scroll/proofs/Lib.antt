mod Orders
mod RowsInOrder
mod SlotsHeld
mod TurnedSlots
pub mod Laws
