pub mod ChoiceLemmas
pub mod TableLemmas
pub mod UnitLemmas
pub mod GrammarLemmas
pub mod ValidOutcomeLemmas
pub mod BeginningLemmas
pub mod LongestBeginningLemmas
pub mod ReadingInPartsLemmas
pub mod OneByteMoreLemmas
pub mod ValidItemLemmas
pub mod WaitingLemmas
pub mod ResumedLemmas
pub mod OptionalPartLemmas
pub mod SequenceLemmas
pub mod ClosedLemmas
pub mod PatternLemmas
pub mod ReaderLemmas
pub mod WorkedSpelling
pub mod EndedUnitLemmas
pub mod BreakerLemmas
pub mod SpelledLemmas
pub mod PatternPixelLemmas
pub mod WrittenPatternLemmas
pub mod PatternSpelledLemmas
pub mod SpellingLemmas
pub mod SpellingByteLemmas
pub mod ReadsLemmas
pub mod TextualLemmas
mod WhatReads
mod WorkedRows
mod WorkedControls
mod WorkedEscapes
mod WorkedSequences
mod WorkedUnits
mod WorkedRuns
mod WorkedItems
