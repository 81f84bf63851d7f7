pub mod Taps
pub mod Signs
pub mod Deeds
