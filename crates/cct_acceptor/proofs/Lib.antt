pub mod Coins
pub mod Replies
