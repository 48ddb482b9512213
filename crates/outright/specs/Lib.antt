pub mod Pointing
pub mod Settling
pub mod Outright
pub mod Working
