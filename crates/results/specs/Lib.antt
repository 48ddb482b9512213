pub mod Worth
pub mod Numbers
pub mod Text
pub mod Writing
pub mod Example
