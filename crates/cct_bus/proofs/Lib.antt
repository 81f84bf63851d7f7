pub mod Asked
pub mod Buses
pub mod Hears
pub mod Lives
pub mod Orders
pub mod Places
pub mod Said
pub mod Tables
