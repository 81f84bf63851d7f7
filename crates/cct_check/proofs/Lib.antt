pub mod Registers
pub mod Entries
mod Vectors
