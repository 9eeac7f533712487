pub mod Searching
pub mod Reaching
pub mod Answering
