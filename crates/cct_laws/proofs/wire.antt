-- What is heard in an exchange: echoes, replies, faults, and when a wire is honest.
pub mod CommonReplies
pub mod Echoes
pub mod Exchanges
pub mod Faults
pub mod ForgedEntriesLast
pub mod HeardBytes
pub mod HonestAsReported
pub mod HonestFaults
pub mod Replies
