pub mod Pairings
pub mod Rounds
