pub mod Echoes
pub mod Framers
pub mod Silences
