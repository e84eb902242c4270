pub mod DigitPairs
pub mod BytesSaid
pub mod RawWords
pub mod KeptLines
pub mod ValidOrders
pub mod PlacedOrders
pub mod DigitsLeft
pub mod Worked
pub mod WorkedBytes
pub mod WorkedKept
pub mod WorkedRanges
mod MadeEvents
mod EditsInTurn
mod KeptStates
mod UndoRedoStates
mod AppliedInTurn
mod LinesMade
mod EditsKept
mod StatesInTurn
mod LinesByStates
mod ScriptsByLines
pub mod Laws
