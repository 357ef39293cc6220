pub mod Limits
pub mod Opening
pub mod Faults
pub mod Parts
pub mod Readings
pub mod FaultLaws
pub mod Laws
