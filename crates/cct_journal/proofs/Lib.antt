pub mod Moments
mod Bytes
mod Windows
mod Rooms
mod Slotted
mod Sides
mod Puts
pub mod Calls
pub mod Heads
mod Beginnings
mod Begun
mod Turns
mod TurnCalls
mod Leaving
mod Walks
mod Fronts
mod Currents
mod Blanks
pub mod Opens
mod Indexed
mod Found
mod Gathered
mod Cuts
mod OldHeads
pub mod OldBodies
mod OldTurns
mod OldFound
