pub mod Trays
pub mod Seeing
pub mod Serving
