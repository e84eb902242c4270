mod BytesLeft
pub mod Laws
mod UnitsMeasured
mod UnitsRead
mod Worked
mod WorkedPages
