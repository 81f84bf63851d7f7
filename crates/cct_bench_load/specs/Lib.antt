pub mod Sums
pub mod Played
