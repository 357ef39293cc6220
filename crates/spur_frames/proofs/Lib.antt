pub mod FreeFacts
pub mod RoundFacts
pub mod DifferFacts
pub mod ClockFacts
pub mod LoopFacts
pub mod CountFacts
