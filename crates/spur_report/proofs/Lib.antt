pub mod CountFacts
