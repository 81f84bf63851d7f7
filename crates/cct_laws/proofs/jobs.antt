-- What jobs do: their rows, tries and ends, and what each step brings.
pub mod AskedAndAnswered
pub mod AtDesk
pub mod AwaitedRecords
pub mod CountersRead
pub mod EachBrought
pub mod Ending
pub mod EntriesOfStep
pub mod GivenUp
mod LastRows
pub mod LeftAlone
pub mod ReadingsMadeAgain
pub mod Scans
pub mod SeenAtOne
pub mod StepBrings
pub mod Tests
pub mod Tries
