pub mod Told
pub mod InOrder
pub mod Plans
pub mod Going
