pub mod Words
pub mod Fronts
pub mod Simps
pub mod Rests
pub mod Walks
pub mod Merges
pub mod Signs
