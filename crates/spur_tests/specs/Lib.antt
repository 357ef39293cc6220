pub mod Untold
pub mod Faults
