pub mod Calls
pub mod Obeyed
pub mod Queue
