pub mod Digits
pub mod TextsInPieces
pub mod LinesPut
pub mod TextsGathered
pub mod Endings
pub mod ScreenLines
pub mod PhaseLines
pub mod Worked
pub mod WorkedPatterns
mod WorkedLooks
mod WorkedPhases
mod WorkedReasons
mod WorkedScreens
