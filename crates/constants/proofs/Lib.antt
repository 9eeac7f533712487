pub mod Calls
pub mod Judges
pub mod Lasts
pub mod Nodes
