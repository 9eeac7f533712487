pub mod Outs
pub mod Words
