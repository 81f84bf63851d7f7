pub mod Hopper
