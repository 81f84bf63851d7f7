pub mod Killed
pub mod Starts
pub mod Sessions
