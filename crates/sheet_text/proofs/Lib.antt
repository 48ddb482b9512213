pub mod Texts
mod Rounds
pub mod Numbers
