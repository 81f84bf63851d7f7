pub mod Saying
pub mod Values
pub mod Judging
pub mod Closing
pub mod Words
pub mod Promises
pub mod Tries
