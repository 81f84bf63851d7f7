pub mod Counted
pub mod Along
pub mod Orders
pub mod Change
pub mod Tally
pub mod Blocks
pub mod Course
