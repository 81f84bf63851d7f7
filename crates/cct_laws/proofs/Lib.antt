pub mod acceptor
pub mod jobs
pub mod money
pub mod orders
pub mod setups
pub mod steps
pub mod text
pub mod wire
