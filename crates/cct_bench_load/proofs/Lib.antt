pub mod Lines
pub mod Playing
pub mod Ending
pub mod Puts
