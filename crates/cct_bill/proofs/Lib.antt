pub mod Bills
pub mod Replies
