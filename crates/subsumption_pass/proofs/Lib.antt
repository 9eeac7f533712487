pub mod Lists
pub mod Refs
pub mod Shapes
pub mod Judged
pub mod Steps
pub mod Stages
pub mod Best
pub mod Whole
