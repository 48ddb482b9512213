pub mod Refusals
pub mod Listing
pub mod Laws
