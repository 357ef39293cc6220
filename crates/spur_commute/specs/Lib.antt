pub mod Apart
pub mod Commute
pub mod Exclusive
pub mod Logs
pub mod Needs
