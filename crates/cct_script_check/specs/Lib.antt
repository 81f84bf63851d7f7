pub mod Proof
pub mod Parts
pub mod Going
