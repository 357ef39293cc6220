pub mod Line
pub mod Formed
pub mod Faults
pub mod Room
pub mod Reading
pub mod Laws
