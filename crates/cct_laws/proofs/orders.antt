-- What holds of a hopper: its orders and payouts, and the ids of orders and sales.
pub mod Closes
pub mod Commands
pub mod HopperReplies
pub mod Ids
pub mod LifeCounts
pub mod NewIds
pub mod OneMoreRecord
pub mod Opening
pub mod Orders
pub mod OwedCoins
pub mod PaidCoins
pub mod PaidOut
pub mod Paying
pub mod Payments
pub mod Payouts
pub mod UsedIds
