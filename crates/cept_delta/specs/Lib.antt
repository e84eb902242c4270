pub mod Delta
pub mod Exchanged
pub mod Noted
pub mod Noter
pub mod inside
