pub mod Account
pub mod Lines
pub mod Books
pub mod Telling
pub mod Known
pub mod Reading
