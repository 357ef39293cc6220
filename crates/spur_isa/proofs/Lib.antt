pub mod WordFacts
