pub mod Places
pub mod Facts
pub mod Rows
pub mod Verdict
pub mod Held
