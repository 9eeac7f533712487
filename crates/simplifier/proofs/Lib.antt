pub mod Clearings
pub mod Cursors
pub mod Entries
