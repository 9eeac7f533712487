pub mod Waits
pub mod Recounts
pub mod Nexts
pub mod Beginnings
pub mod Kept
pub mod Callers
