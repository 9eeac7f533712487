pub mod Collected
pub mod Answers
