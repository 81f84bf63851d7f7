pub mod Places
pub mod Running
pub mod Spellings
pub mod Words
