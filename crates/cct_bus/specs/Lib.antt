pub mod Body
pub mod Bus
pub mod Device
pub mod Fault
pub mod Outcome
pub mod Room
