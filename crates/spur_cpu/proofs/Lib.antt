pub mod Afters
pub mod Led
pub mod Going
pub mod ToAccess
pub mod Instructions
pub mod Zeros
