-- Definitions that private clauses alone cite: a reader of the contracts passes them over.
pub mod Reporting
pub mod ScriptReading
pub mod Converting
