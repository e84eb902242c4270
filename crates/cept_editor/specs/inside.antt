-- Definitions that private clauses alone cite: a reader of the contracts passes them over.
pub mod Applying
pub mod Decoding
pub mod Order
pub mod Places
