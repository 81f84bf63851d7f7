mod Walks
pub mod Agreeing
pub mod Reading
