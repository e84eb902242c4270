mod Lengths
mod Worked
mod WorkedCodes
