pub mod Words
pub mod Turns
pub mod Lines
pub mod Marks
