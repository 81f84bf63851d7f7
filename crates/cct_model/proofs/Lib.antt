pub use Rattle.cct_model_lines.proofs.Messages
pub use Rattle.cct_model_lines.proofs.Requests
pub use Rattle.cct_model_lines.proofs.Hoppers
pub use Rattle.cct_model_lines.proofs.Replaced
pub use Rattle.cct_model_lines.proofs.Added
pub use Rattle.cct_model_lines.proofs.Sound
pub mod Addresses
pub mod Polls
pub mod Doses
pub mod OpenOrders
pub mod Knowing
pub mod Rows
pub mod Tries
pub mod RowEnds
mod Vectors
mod Machine
mod Payments
mod Payouts
mod Restarts
mod Refusals
mod Ledger
mod Forged
mod Bills
mod ForgedWires
mod Moving
mod Day
pub mod Changes
