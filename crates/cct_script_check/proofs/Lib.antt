pub mod Marks
pub mod Going
pub mod Lines
pub mod First
