pub mod Answer
pub mod Calls
pub mod Counted
pub mod Port
pub mod Silence
pub mod Standard
