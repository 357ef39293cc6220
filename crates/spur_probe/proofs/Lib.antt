pub mod ShownFacts
pub mod MovedFacts
pub mod StopFacts
