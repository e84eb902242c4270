-- Definitions that private clauses alone cite: a reader of the contracts passes them over.
pub mod Brush
pub mod Compared
pub mod Flagged
pub mod KeptNames
pub mod KeptRows
pub mod Places
pub mod RowsByCell
pub mod SmallLooks
pub mod Walk
