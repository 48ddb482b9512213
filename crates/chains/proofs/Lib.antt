mod Linked
mod Gathered
mod Threads
pub mod Tables
pub mod Moves
pub mod Puts
pub mod Fresh
pub mod Waiting
