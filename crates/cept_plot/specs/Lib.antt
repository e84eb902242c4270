pub mod Commands
pub mod Drawings
pub mod Figures
pub mod Lit
pub mod Painted
pub mod Points
pub mod inside
