mod Chosen
mod Inquiring
mod Rolling
mod Trying
