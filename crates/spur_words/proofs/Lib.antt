pub mod WatchFacts
pub mod WordFacts
pub mod AloneFacts
