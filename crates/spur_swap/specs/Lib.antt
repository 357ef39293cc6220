pub mod Pages
pub mod Told
pub mod Meaning
pub mod Kept
