mod EqualityDecides
pub mod Laws
mod Lists
mod Places
mod Tables
mod EqualityTests
mod Worked
