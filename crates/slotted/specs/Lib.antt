pub mod Indexes
pub mod Law
pub mod Facts
pub mod Tied
pub mod Filled
