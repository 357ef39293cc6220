pub mod Protocol
pub mod Size
