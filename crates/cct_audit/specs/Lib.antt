pub mod Capture
pub mod Writing
pub mod Telling
pub mod Reading
pub mod Going
pub mod Audit
pub mod Joined
