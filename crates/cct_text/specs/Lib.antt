pub mod Adding
pub mod Joined
pub mod Reading
pub mod ScriptLine
pub mod Written
pub mod Writing
