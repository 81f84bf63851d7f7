pub mod Content
pub mod Disk
pub mod File
pub mod Laws
pub mod Memory
pub mod Settle
pub mod Torn
pub mod Traced
