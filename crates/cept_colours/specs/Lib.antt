pub mod Colours
pub mod Fields
