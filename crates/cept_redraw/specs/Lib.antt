pub mod Kept
pub mod Marks
pub mod Named
pub mod Picture
pub mod Renewed
pub mod Resolved
pub mod Restored
pub mod inside
