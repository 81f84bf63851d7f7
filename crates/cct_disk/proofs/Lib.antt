mod Cuts
mod Images
pub mod Ranges
pub mod Taking
mod Tears
mod Writing
