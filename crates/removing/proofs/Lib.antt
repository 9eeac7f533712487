pub mod Clears
pub mod Ruled
pub mod Flags
pub mod Sweeps
pub mod Settles
pub mod Following
