pub mod Words
pub mod Called
pub mod Decoders
pub mod EditLines
pub mod Owned
pub mod Told
pub mod LateGlass
pub mod inside
