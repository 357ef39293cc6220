pub mod Text
pub mod Ranges
