pub mod Echo
pub mod Framer
pub mod Heard
