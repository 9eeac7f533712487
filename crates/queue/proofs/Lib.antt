pub mod Sifts
pub mod Changes
pub mod Index
pub mod Lines
pub mod Drains
pub mod Counts
