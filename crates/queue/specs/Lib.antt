pub mod Orders
pub mod Keys
pub mod Heaps
pub mod Pops
pub mod Places
pub mod Waiting
