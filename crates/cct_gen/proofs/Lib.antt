pub mod LoadSetup
pub mod Lines
mod Vectors
