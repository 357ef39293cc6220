pub mod WorldFacts
