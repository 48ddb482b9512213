pub mod Pairs
pub mod Above
pub mod Theorems
pub mod Examples
