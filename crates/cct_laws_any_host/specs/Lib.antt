pub mod Wild
pub mod Claims
