mod FilesAdded
mod FilesChosen
mod BytesHandedOn
mod PartsOfTexts
pub mod Laws
mod PutSoFar
mod SlicesFilled
mod SlicesFound
mod NumbersReached
mod Worked
