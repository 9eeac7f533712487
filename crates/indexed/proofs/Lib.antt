pub mod Turns
pub mod Asks
