-- What is written and read: bytes, words, lines and scripts.
pub mod Answering
pub mod Bytes
pub mod EntriesInRange
pub mod LinesInRange
pub mod Scripts
pub mod Texts
pub mod Words
