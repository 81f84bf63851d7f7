pub mod Sums
pub mod Listing
