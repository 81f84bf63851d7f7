pub mod Asking
pub mod Codes
pub mod Fed
pub mod Frames
pub mod Held
pub mod Told
