pub mod Seen
pub mod Parts
pub mod Closing
