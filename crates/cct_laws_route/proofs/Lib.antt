pub mod Coming
pub mod Escrow
pub mod Held
pub mod Placed
pub mod Routes
pub mod Worked
