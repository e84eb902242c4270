pub mod Flashing
pub mod Phases
pub mod SeenFlashing
pub mod inside
