pub mod Sequences
pub mod Changes
