-- Definitions that private clauses alone cite: a reader of the contracts passes them over.
pub mod Due
pub mod Kept
pub mod Marks
pub mod Named
pub mod Passed
pub mod Picture
pub mod Redefined
