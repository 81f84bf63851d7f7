pub mod Asking
pub mod Category
pub mod Coins
pub mod Finding
pub mod Roll
pub mod Room
pub mod Twins
