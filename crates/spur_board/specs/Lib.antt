pub mod Boards
pub mod Own
pub mod OwnLaws
pub mod BudgetLaw
