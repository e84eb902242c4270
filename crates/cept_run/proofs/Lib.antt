pub mod EventsOfItems
pub mod PaintedItems
pub mod MarkedCount
pub mod CountedPlaces
pub mod ReportedItems
pub mod PagesInPieces
pub mod EditedLines
pub mod ShownEvents
pub mod SilentEvents
pub mod DrawnPages
pub mod MadeEdits
pub mod EditedPages
pub mod Selections
pub mod ReadScripts
pub mod ReportedFronts
pub mod StoppedScripts
pub mod FrontsPut
pub mod NothingTouched
pub mod ReportedRuns
pub mod RestoredPages
pub mod FreshDecoders
pub mod EndsOfRuns
pub mod GeneratedPages
pub mod LoadedPages
pub mod WholeRuns
mod KnownPages
mod ConvertedPieces
mod ConvertedPages
pub mod PutEnds
pub mod EndTexts
pub mod Numbers
mod Worked
mod WorkedWords
mod WorkedCourses
mod WorkedSequels
mod WorkedRuns
mod WorkedStatuses
