pub mod Next
pub mod Settling
