pub mod CellsAlone
pub mod Columns
pub mod Drawings
pub mod KeptLooks
pub mod KeptRows
pub mod PlacesKept
pub mod RowsAlone
pub mod RowsByPart
pub mod RowsOfCores
pub mod Signs
pub mod WalkedRows
pub mod NamesKept
pub mod RowsSearched
pub mod RowsCompared
mod FlaggedColumns
mod CopiedColumns
