-- Definitions that private clauses alone cite: a reader of the contracts passes them over.
pub mod Editing
pub mod Live
pub mod Parts
pub mod Turning
