pub mod Frames
pub mod Clock
pub mod Laws
