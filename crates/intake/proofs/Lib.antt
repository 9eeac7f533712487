pub mod Searching
pub mod Steps
pub mod Meanings
pub mod Exactness
pub mod LooseNodes
pub mod Examples
pub mod Counts
