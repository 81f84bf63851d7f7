-- What holds of a device that takes money: its coins, credits, masks and posts, and the rows of its epoch.
pub mod AcceptorReplies
pub mod Acceptors
pub mod BesideCoins
pub mod Causes
pub mod Commands
pub mod Coinless
pub mod Fits
mod Kinds
mod Leads
pub mod Masks
pub mod Moves
pub mod NewestEvents
pub mod Posts
pub mod Putting
pub mod Readings
pub mod RecordsKeep
pub mod Rounds
pub mod Safety
pub mod Starts
pub mod Stops
pub mod Tallies
