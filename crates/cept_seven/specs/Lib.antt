pub mod Seven
pub mod Eight
pub mod Wide
