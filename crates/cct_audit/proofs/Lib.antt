pub mod Lines
pub mod Going
pub mod Joined
pub mod Puts
