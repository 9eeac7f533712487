pub mod Answers
pub mod Accepted
pub mod Samples
