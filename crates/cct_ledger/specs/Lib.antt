pub mod Told
pub mod Ledger
pub mod Orders
pub mod Resumed
