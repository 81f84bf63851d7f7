pub mod Failing
pub mod Following
pub mod Silence
