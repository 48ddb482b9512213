pub mod Law
pub mod Kinds
