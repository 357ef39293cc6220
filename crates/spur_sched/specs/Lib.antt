pub mod Picks
pub mod Steps
pub mod Shown
pub mod Followed
