pub mod Finding
pub mod Going
pub mod Settling
