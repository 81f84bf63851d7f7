pub mod CarryBack
pub mod OldBack
pub mod OldCarryBack
mod OldVectors
pub mod Spellings
pub mod Widened
