pub mod Changes
pub mod Keeping
pub mod Advancing
pub mod Meeting
pub mod Told
pub mod Running
pub mod Row
pub mod Finish
