pub mod FlatFacts
pub mod StepFacts
pub mod ListFacts
pub mod LawFacts
pub mod ExclusiveFacts
pub mod BehindFacts
pub mod LogFacts
mod NeedFacts
