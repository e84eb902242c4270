mod FoundFlashing
mod LooksKept
mod MarkedInTurn
mod ShownPlaces
mod TurnedPlaces
mod TurningLooks
mod WorkedLooks
mod WorkedPhases
