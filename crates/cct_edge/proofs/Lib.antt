pub mod Chains
mod Pieces
