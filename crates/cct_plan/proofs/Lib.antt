pub mod Doubling
pub mod Stepping
pub mod Chosen
pub mod Chain
pub mod Fewest
pub mod Unique
