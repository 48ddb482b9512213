pub mod Chosen
pub mod Put
pub mod Lines
pub mod Pairs
pub mod Sums
