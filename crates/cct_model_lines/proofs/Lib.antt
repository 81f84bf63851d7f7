pub use Rattle.cct_model_wire.proofs.Messages
pub use Rattle.cct_model_wire.proofs.Requests
pub use Rattle.cct_model_wire.proofs.Hoppers
pub use Rattle.cct_model_wire.proofs.Replaced
mod Scripts
mod Sets
mod Ordered
mod Words
pub mod Added
pub mod Sound
mod Vectors
