pub mod Outs
pub mod Owed
pub mod Follows
