pub mod Messages
mod Vectors
mod Payouts
pub mod Requests
pub mod Places
pub mod Replaced
pub mod Hoppers
pub mod OfBytes
