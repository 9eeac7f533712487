pub mod Links
pub mod Facts
pub mod Turns
pub mod Laws
