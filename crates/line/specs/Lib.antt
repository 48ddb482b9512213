pub mod Law
pub mod Calls
pub mod Example
pub mod Kinds
