pub mod Totals
pub mod Layout
pub mod Lists
pub mod Effects
pub mod Laws
