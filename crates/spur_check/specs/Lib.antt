pub mod Replays
pub mod Judged
pub mod Endings
pub mod Numbered
pub mod Kept
pub mod Laws
