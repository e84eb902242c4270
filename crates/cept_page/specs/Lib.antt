pub mod Behind
pub mod Drawn
pub mod Fields
pub mod MarkedRows
pub mod Parts
pub mod inside
