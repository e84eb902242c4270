mod CountedWords
mod FirstLines
mod FirstParts
mod WorkedLines
