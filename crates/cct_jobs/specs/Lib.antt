pub mod Ahead
pub mod Jobs
pub mod Onward
pub mod Scans
pub mod Sales
