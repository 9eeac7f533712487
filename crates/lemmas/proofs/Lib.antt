pub mod Writes
pub mod Fewer
pub mod Sorts
pub mod Sweeps
pub mod Marks
