pub mod Told
pub mod Faults
pub mod Calls
pub mod Store
pub mod Memory
pub mod Adapters
