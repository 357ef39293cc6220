pub mod Boards
pub mod Logical
pub mod Agrees
pub mod Calls
pub mod Stand
pub mod Fits
pub mod Empty
