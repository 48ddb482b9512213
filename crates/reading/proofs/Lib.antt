pub mod Lists
pub mod Passed
pub mod Next
pub mod Starts
pub mod Wrong
pub mod Only
pub mod Lent
