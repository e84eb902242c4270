mod BytesFed
mod DisplaysKept
mod ItemsTaken
pub mod Laws
mod LinesKept
mod LinesMade
mod LinesOfItems
mod PagesRead
mod PhasesTold
mod SayingsTold
mod SnapshotsPut
mod Worked
mod WorkedShown
mod WorkedSnapshots
mod WorkedStates
mod WorkedColours
mod WorkedBounds
mod WorkedLines
