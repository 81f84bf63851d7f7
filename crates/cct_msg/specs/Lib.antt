pub mod Wanted
pub mod Forms
