pub mod Rendition
pub mod inside
