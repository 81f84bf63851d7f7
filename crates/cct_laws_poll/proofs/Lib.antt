mod Beginning
mod Calls
mod Keeping
mod Living
mod Parts
