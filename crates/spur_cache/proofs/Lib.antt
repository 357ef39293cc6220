pub mod CacheFacts
pub mod SpanFacts
pub mod SizeFacts
pub mod LawFacts
