pub mod InTurn
pub mod Unchanged
pub mod Room
pub mod PastAndFuture
mod Worked
