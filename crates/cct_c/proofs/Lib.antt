pub mod Reasons
pub mod Said
