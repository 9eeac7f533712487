pub mod Rings
pub mod Laws
pub mod Left
pub mod Tidy
