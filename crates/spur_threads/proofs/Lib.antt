pub mod TurnFacts
pub mod EndFacts
pub mod SeatFacts
pub mod Sent
