pub mod Playing
pub mod Showing
pub mod Sending
pub mod Ordering
pub mod Tried
pub mod Asking
