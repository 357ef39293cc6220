pub mod PageFacts
pub mod MoveFacts
pub mod AnswerFacts
pub mod WriteFacts
pub mod MemoryFacts
pub mod HistoryFacts
pub mod InvisibleFacts
pub mod ServedFacts
pub mod AddressFacts
pub mod RunFacts
mod NeedFacts
