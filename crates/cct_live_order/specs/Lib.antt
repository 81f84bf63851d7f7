pub mod Told
pub mod Looking
