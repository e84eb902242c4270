-- Definitions that private clauses alone cite: a reader of the contracts passes them over.
pub mod Drawing
pub mod Kept
pub mod Lit
pub mod Rounding
pub mod ValidPainted
