pub mod Firsts
pub mod Sequence
pub mod Facts
pub mod Whole
