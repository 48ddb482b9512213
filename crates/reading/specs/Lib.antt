pub mod Listing
pub mod Entries
pub mod Passing
pub mod Outcome
pub mod Examples
