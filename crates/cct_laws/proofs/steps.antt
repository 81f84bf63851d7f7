-- What one step more keeps: of a transcript, of each device, and at the desk of the operator.
pub mod AllKept
pub mod AtTheDesk
pub mod EachKeeps
pub mod EitherKind
pub mod OneMore
pub mod SameTranscript
