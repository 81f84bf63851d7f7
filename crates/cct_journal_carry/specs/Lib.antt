pub mod CoinPlaces
pub mod GoingOn
pub mod Places
pub mod Tests
pub mod Scope
pub mod Sound
pub mod Tally
