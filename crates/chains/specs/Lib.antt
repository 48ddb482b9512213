pub mod Walk
pub mod Gathered
pub mod Tables
pub mod Stores
pub mod Example
