pub mod Escrow
pub mod Held
pub mod Places
pub mod Routes
