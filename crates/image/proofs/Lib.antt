pub mod Walks
pub mod Shapes
pub mod Notes
pub mod Heads
