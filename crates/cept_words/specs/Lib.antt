pub mod Cut
pub mod Faults
pub mod Lines
pub mod Words
pub mod inside
