pub mod Memory
pub mod Blocks
