pub mod Broken
pub mod Plays
pub mod Leaving
pub mod Doing
pub mod Showing
