pub mod Limits
pub mod Fields
pub mod Faults
pub mod Reading
pub mod Laws
