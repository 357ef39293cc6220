pub mod DoneLines
pub mod EndingFacts
pub mod EventFacts
pub mod CarryFacts
pub mod StepFacts
pub mod TurnFacts
pub mod BudgetFacts
