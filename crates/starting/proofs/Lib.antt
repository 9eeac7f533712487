pub mod Refusals
pub mod Blanks
pub mod Entering
pub mod Nodes
