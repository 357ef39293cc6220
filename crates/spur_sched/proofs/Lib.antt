pub mod PickFacts
pub mod StepFacts
pub mod LeftFacts
pub mod ShowingFacts
pub mod FollowFacts
