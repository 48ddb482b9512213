pub mod Checking
pub mod Pairing
pub mod Within
pub mod Lent
