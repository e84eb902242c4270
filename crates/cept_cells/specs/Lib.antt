pub mod Freed
pub mod Replaced
pub mod inside
