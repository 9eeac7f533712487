pub mod Attempts
pub mod Turns
pub mod Calls
