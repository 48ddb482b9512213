pub mod World
pub mod Marks
pub mod Steps
pub mod Turns
pub mod Runs
pub mod History
pub mod Law
