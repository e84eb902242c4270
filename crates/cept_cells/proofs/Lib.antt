mod CellsAfterStrokes
mod CellsInSlots
mod ShiftedRows
