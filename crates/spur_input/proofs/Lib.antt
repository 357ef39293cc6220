pub mod CutFacts
pub mod ProgramFacts
pub mod RunFacts
pub mod AssembleFacts
pub mod CheckFacts
pub mod AnswerFacts
