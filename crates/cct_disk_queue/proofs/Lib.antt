pub mod Images
pub mod Making
pub mod Noted
